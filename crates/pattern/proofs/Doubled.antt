-- Where two links or more lead from one position to another, one of them is a repeat's: a joining alone links the two once, as they
-- lie on different sides of it. So both lie in that repeat, and from the second a way leads on to an end of it, round, and back to
-- the first. With refusal 7 an accepted pattern's graph is trim. Assumes nothing.
use mathlib.Core.Path.{◌≡◌, refl}
use mathlib.Core.Logic.{◌⊎◌, inl, inr, ⊎_elim}
use mathlib.Core.Bool.{true, ◌&&◌}
use mathlib.Core.List.{List, [], ◌∷◌, ◌++◌}
use Prim.Native.Nat.{ℕ, zero, suc, ◌+◌, ◌≤◌}
use native.Mathlib.Omega.{arith}
use Rattle.std.specs.Prelude.{if◌then◌else◌}
use Rattle.basics.proofs.Tests.{and_parts, by_test, if_no}
use Rattle.basics.proofs.Lists.{end_append}
use Rattle.alphabet.specs.Alphabet.{is_letter}
use Rattle.graph.specs.Graph.{doubled, is_position}
use Rattle.graph.specs.Trim.{Looped, Trim}
use Rattle.graph.proofs.Links.{of_some, several_of, if_low}
use Rattle.pattern.specs.Parts.{loops, Repeat, Part, letter, either, joined, again}
use Rattle.pattern.specs.Grammar.{pattern_part}
use Rattle.pattern.specs.Positions.{positions, is_first, is_last, links, graph_of}
use Rattle.pattern.specs.Refusals.{pattern_refusal}
use Rattle.pattern.proofs.Link.{again_on}
use Rattle.pattern.proofs.Own.{Own, first_own, last_own, follow_own}
use Rattle.pattern.proofs.Runs.{run_on, run_more, run_right}
use Rattle.pattern.proofs.Accepted.{refusal_none}
use Rattle.pattern.proofs.Useful.{Way, way_left, passed, route, route_to, useful, lettered}
use Rattle.pattern.proofs.Bounds.{own_position}

-- ---- links on one side only

-- positions that are linked are the part's own
pub linked_own : (p : Part) (n x y : ℕ) → 1 ≤ links n p x y → Own n p x × Own n p y
linked_own p n x y l = follow_own p n x y (of_some (links n p x y) l)

module _ (n : ℕ) (p q : Part) (x y : ℕ) where
  abbrev left : ℕ
  left = links n p x y

  abbrev right : ℕ
  right = links (n + positions p) q x y

  -- not in both of two parts side by side
  pub not_both : 1 ≤ left → 1 ≤ right → ⊥
  not_both l r = let a = (linked_own p n x y l).0 in let b = (linked_own q (n + positions p) x y r).0 in omega arith

  -- and not in either where a joining links them
  pub over_alone : (is_last n p x && is_first (n + positions p) q y) ≡ true → (left ≡ 0) × (right ≡ 0)
  over_alone t =
      let w = and_parts (is_last n p x) (is_first (n + positions p) q y) t in
      let a = last_own p n x w.0 in
      let b = first_own q (n + positions p) y w.1 in
      (none left (λ l. let c = (linked_own p n x y l).1 in omega arith), none right (λ l. let c = (linked_own q (n + positions p) x y l).0 in omega arith))
    where
      none : (k : ℕ) → (1 ≤ k → ⊥) → k ≡ 0
      none zero h = refl
      none (suc k) h = absurd (h (omega arith))

-- two in all, and not some of each
one_side : (a b : ℕ) → (1 ≤ a → 1 ≤ b → ⊥) → 2 ≤ a + b → (2 ≤ a) ⊎ (2 ≤ b)
one_side zero b h l = inr (omega arith)
one_side (suc a) zero h l = inl (omega arith)
one_side (suc a) (suc b) h l = absurd (h (omega arith) (omega arith))

-- ---- the way back

abbrev Back : ℕ → Part → ℕ → ℕ → Type 0
Back n p x y = (r : List ℕ) × Way n p (suc y) r (suc x)

-- of a repeat that links them
round : (k : Repeat) (n : ℕ) (p : Part) (x y : ℕ) → loops k ≡ true → Own n p (suc x) → Own n p (suc y) → Back n (again k p) x y
round k n p x y l a b =
    let t = passed p n x (omega arith) (omega arith) in
    let f = passed p n y (omega arith) (omega arith) in
    (f.after ++ t.before, run_more l f.from (run_on (again_on k n p) t.to))

back : (p : Part) (n x y : ℕ) → 2 ≤ links n p (suc x) (suc y) → Back n p x y
back (letter a) n x y l = absurd (omega arith)
back (either p q) n x y l =
    let m = n + positions p in
    ⊎_elim (λ a. let w = back p n x y a in (w.0, run_on (λ u v e. inl e) w.1)) (λ a. let w = back q m x y a in (w.0, run_on (λ u v e. inr e) w.1))
    (one_side (links n p (suc x) (suc y)) (links m q (suc x) (suc y)) (not_both n p q (suc x) (suc y)) l)
back (joined p q) n x y l =
    let m = n + positions p in
    let over = is_last n p (suc x) && is_first m q (suc y) in
    by_test over
    (λ t. let z = over_alone n p q (suc x) (suc y) t in let a = z.0 in let b = z.1 in let c = if_low over in absurd (omega arith))
    (λ t. let c = if_no {A = ℕ} 1 0 over t in
    ⊎_elim (λ a. let w = back p n x y a in (w.0, way_left w.1)) (λ a. let w = back q m x y a in (w.0, run_right w.1))
    (one_side (links n p (suc x) (suc y)) (links m q (suc x) (suc y)) (not_both n p q (suc x) (suc y)) (omega arith)))
back (again k p) n x y l =
    let ends = is_last n p (suc x) && is_first n p (suc y) in
    let turn = loops k && ends in
    by_test turn
    (λ t.
    let w = and_parts (loops k) ends t in
    let e = and_parts (is_last n p (suc x)) (is_first n p (suc y)) w.1 in
    round k n p x y w.0 (last_own p n (suc x) e.0) (first_own p n (suc y) e.1))
    (λ t. let c = if_no {A = ℕ} 1 0 turn t in let w = back p n x y (omega arith) in (w.0, run_on (again_on k n p) w.1))

looped : (p : Part) (u i : ℕ) → doubled (graph_of p) u i ≡ true → (is_position (graph_of p) u ≡ true) × (is_position (graph_of p) i ≡ true) × Looped (graph_of p) u i
looped p zero i e = absurd (let l = several_of (if is_first 0 p i then 1 else 0) e in let c = if_low (is_first 0 p i) in omega arith)
looped p (suc x) zero e = absurd (let l = several_of (links 0 p (suc x) 0) e in let w = (linked_own p 0 (suc x) 0 (omega arith)).1 in omega arith)
looped p (suc x) (suc y) e =
    let l = several_of (links 0 p (suc x) (suc y)) e in
    let o = linked_own p 0 (suc x) (suc y) (omega arith) in
    let w = back p 0 x y l in
    let r = route p w.1 in (
      own_position p (suc x) o.0,
      own_position p (suc y) o.1,
      record {
        way = w.0 ++ (suc x ∷ []);
        goes = route_to p (suc y) w.0 x r.0 r.1;
        back = end_append (suc y) w.0 (suc x ∷ []);
      },
    )

-- ---- so the graph of an accepted pattern is trim

pub trim : (b : List ℕ) → pattern_refusal b ≡ 0 → Trim (graph_of (pattern_part b))
trim b e =
    let p = pattern_part b in
    record {
      letters = λ i c h. (and_parts (is_letter c) _ h).0;
      lettered = lettered p (refusal_none b e).none_empty;
      useful = useful p;
      looped = looped p;
    }
