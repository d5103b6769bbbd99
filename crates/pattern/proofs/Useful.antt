-- Every position of a part lies on a run from 0 to 0, with fewer positions before it, and after it, than the part has: by structure,
-- as a part then another takes a whole run of the one it does not lie in. Assumes nothing.
use mathlib.Core.Path.{◌≡◌, refl, subst}
use mathlib.Core.Logic.{inl, inr, ⊎_elim}
use mathlib.Core.Bool.{true, false, not}
use mathlib.Core.List.{List, [], ◌∷◌, ◌++◌}
use Prim.Native.Nat.{ℕ, zero, suc, ◌+◌, ◌≤◌, ◌<◌}
use native.Mathlib.Nat.{le_of_suc-le-suc}
use native.Mathlib.Omega.{arith}
use lib.ListN.{length, length-append, get_or}
use borrow.Author.Tests.{not-false}
use Rattle.basics.specs.Lists.{end_of}
use Rattle.basics.proofs.Tests.{or_parts, le_or_lt}
use Rattle.basics.proofs.Lists.{end_append}
use Rattle.alphabet.specs.Alphabet.{some_letter}
use Rattle.graph.specs.Graph.{is_position}
use Rattle.graph.proofs.Walks.{position_of}
use Rattle.graph.specs.Trim.{Route, Useful}
use Rattle.pattern.specs.Parts.{Atom, holds, Part, letter, either, joined, again}
use Rattle.pattern.specs.Grammar.{no_atom}
use Rattle.pattern.specs.Positions.{atoms, positions, atom_at, graph_of}
use Rattle.pattern.specs.Refusals.{any_empty}
use Rattle.pattern.proofs.Link.{Link, again_on}
use Rattle.pattern.proofs.Within.{positions_joined}
use Rattle.pattern.proofs.Runs.{Run, end, step, run_on, run_right, run_join}
use Rattle.pattern.proofs.Texts.{next_link, last_link, link_position}

-- ---- runs by their positions

-- the list of a way is that of the positions it comes to
abbrev pub Way : ℕ → Part → ℕ → List ℕ → ℕ → Type 0
Way = Run (λ x i. x ≡ i)

pub way_left : {n : ℕ} {p q : Part} {u y : ℕ} {r : List ℕ} → Way n p u r (suc y) → Way n (joined p q) u r (suc y)
way_left (end e) = end (inl (refl, e))
way_left (step x e d k) = step x (inl (refl, e)) d (way_left k)

-- one through the whole part
record Through (n : ℕ) (p : Part) : Type 0 where
  by : List ℕ
  way : Way n p 0 by 0
  short : length by ≤ positions p

through : (p : Part) (n : ℕ) → Through n p
through (letter a) n = record { by = suc n ∷ []; way = step n refl refl (end refl); short = omega arith }
through (either p q) n =
    let t = through p n in
    let z = positions_joined p q in
    record { by = t.by; way = run_on (λ u v e. inl e) t.way; short = omega arith }
through (joined p q) n =
    let t = through p n in
    let s = through q (n + positions p) in
    let z = positions_joined p q in
    record { by = t.by ++ s.by; way = run_join t.way s.way; short = simp length-append (omega arith) }
through (again k p) n = let t = through p n in record { by = t.by; way = run_on (again_on k n p) t.way; short = t.short }

-- ways to a position and from it
pub record Passed (n : ℕ) (p : Part) (x : ℕ) : Type 0 where
  pub before : List ℕ
  pub to : Way n p 0 before (suc x)
  pub few_before : length before < positions p
  pub after : List ℕ
  pub from : Way n p (suc x) after 0
  pub few_after : length after < positions p

passed_on : {n l : ℕ} {p w : Part} {x : ℕ} → ((u v : ℕ) → Link n p u v → Link l w u v) → positions p ≤ positions w → Passed n p x → Passed l w x
passed_on f z t = record {
  before = t.before;
  to = run_on f t.to;
  few_before = omega arith;
  after = t.after;
  from = run_on f t.from;
  few_after = omega arith;
}

passed_left : {n : ℕ} {p q : Part} {x : ℕ} → Passed n p x → Passed n (joined p q) x
passed_left {n} {p} {q} t =
    let s = through q (n + positions p) in
    let z = positions_joined p q in
    record {
      before = t.before;
      to = way_left t.to;
      few_before = omega arith;
      after = t.after ++ s.by;
      from = run_join t.from s.way;
      few_after = simp length-append (omega arith);
    }

passed_right : {n : ℕ} {p q : Part} {x : ℕ} → Passed (n + positions p) q x → Passed n (joined p q) x
passed_right {n} {p} {q} t =
    let s = through p n in
    let z = positions_joined p q in
    record {
      before = s.by ++ t.before;
      to = run_join s.way t.to;
      few_before = simp length-append (omega arith);
      after = t.after;
      from = run_right t.from;
      few_after = omega arith;
    }

pub passed : (p : Part) (n x : ℕ) → n ≤ x → x < n + positions p → Passed n p x
passed (letter a) n x g l =
    let e : x ≡ n = omega arith in
    record { before = []; to = end e; few_before = omega arith; after = []; from = end e; few_after = omega arith }
passed (either p q) n x g l =
    let z = positions_joined p q in
    ⊎_elim (λ r. passed_on (λ u v e. inr e) (omega arith) (passed q (n + positions p) x r (omega arith))) (λ r. passed_on (λ u v e. inl e) (omega arith) (passed p n x g r))
    (le_or_lt (n + positions p) x)
passed (joined p q) n x g l =
    let z = positions_joined p q in
    ⊎_elim (λ r. passed_right (passed q (n + positions p) x r (omega arith))) (λ r. passed_left (passed p n x g r)) (le_or_lt (n + positions p) x)
passed (again k p) n x g l = passed_on (again_on k n p) (omega arith) (passed p n x g l)

-- ---- ways are routes of the graph

pub route : (p : Part) {u v : ℕ} {r : List ℕ} → Way 0 p u r v → Route (graph_of p) u r × Link 0 p (end_of u r) v
route p (end e) = (tt, e)
route p {u} {v} (step {s = s} x e d k) =
    let t = route p k in
    subst (λ (i : ℕ). Route (graph_of p) u (i ∷ s) × Link 0 p (end_of i s) v) d ((link_position p u x e, (next_link p u x).0 e, t.0), t.1)

pub route_to : (p : Part) (u : ℕ) (r : List ℕ) (y : ℕ) → Route (graph_of p) u r → Link 0 p (end_of u r) (suc y) → Route (graph_of p) u (r ++ (suc y ∷ []))
route_to p u [] y h e = (link_position p u y e, (next_link p u y).0 e, tt)
route_to p u (i ∷ r) y h e = (h.0, h.1, route_to p i r y h.2 e)

pub useful : (p : Part) (q : ℕ) → is_position (graph_of p) q ≡ true → Useful (graph_of p) q
useful p zero h = absurd (omega (arith, position_of (graph_of p) 0 h))
useful p (suc x) h =
    let i = position_of (graph_of p) (suc x) h in
    let t = passed p 0 x (omega arith) (omega arith) in
    let a = route p t.to in
    let b = route p t.from in
    record {
      way_in = t.before ++ (suc x ∷ []);
      goes_in = route_to p 0 t.before x a.0 a.1;
      comes = end_append 0 t.before (suc x ∷ []);
      short_in = simp length-append (omega arith);
      way_out = t.after;
      goes_out = b.0;
      ends = (last_link p (end_of (suc x) t.after)).0 b.1;
      short_out = omega arith;
    }

-- ---- every set holds a letter

some_letter_held : (al : List Atom) (j : ℕ) → any_empty al ≡ false → j < length al → some_letter (holds (get_or al j no_atom)) ≡ true
some_letter_held [] j e l = absurd (omega arith)
some_letter_held (a ∷ al) zero e l = not-false (some_letter (holds a)) (or_parts (not (some_letter (holds a))) (any_empty al) e).0
some_letter_held (a ∷ al) (suc j) e l = some_letter_held al j (or_parts (not (some_letter (holds a))) (any_empty al) e).1 (le_of_suc-le-suc l)

pub lettered : (p : Part) → any_empty (atoms p) ≡ false → (i : ℕ) → is_position (graph_of p) i ≡ true → some_letter (holds (atom_at p i)) ≡ true
lettered p e zero h = absurd (omega (arith, position_of (graph_of p) 0 h))
lettered p e (suc j) h = let i = position_of (graph_of p) (suc j) h in some_letter_held (atoms p) j e (omega arith)
