-- What a verdict shows can be shown: a shortest text with two readings where a graph is ambiguous, a shortest way in, two loops and a
-- way out where it has a pivot; and what a runaway's texts say of walks. Assumes nothing.
use mathlib.Core.Path.{◌≡◌, refl, sym, ap, ap₂, ◌∙◌, subst}
use mathlib.Core.Logic.{⊎_elim}
use mathlib.Core.Bool.{Bool, true, false, ◌&&◌}
use mathlib.Core.List.{List, [], ◌∷◌, ◌++◌}
use Prim.Native.Nat.{ℕ, ◌≤◌}
use native.Mathlib.Omega.{arith}
use lib.Dec.{leb}
use borrow.Author.Tests.{leb-true, le-leb}
use lib.ListN.{length, length-append, length-map}
use Rattle.basics.specs.Lists.{end_of}
use Rattle.basics.proofs.Tests.{and_parts, and_of}
use Rattle.alphabet.specs.Alphabet.{all_letters}
use Rattle.graph.specs.Graph.{Graph, is_position}
use Rattle.graph.specs.Readings.{Transition, path, is_reading, readings}
use Rattle.graph.specs.Taken.{possible}
use Rattle.graph.proofs.Counting.{TwoReadings, two_count, count_reading, count_two}
use Rattle.graph.proofs.Taken.{leads_walk, walk_leads}
use Rattle.graph.proofs.Walks.{position_of, walk_length, plain, path_plain, Goes, Reads, goes_length, walk_plain, reads_goes, goes_reads, reads_append, reads_split}
use Rattle.graph.specs.Trim.{Trim, Useful}
use Rattle.verdict.specs.Evidence.{shown, ShowsSteady, ShowsRunaway}
use Rattle.verdict.specs.Verdict.{ambiguous, first_pivot}
use Rattle.verdict.proofs.Doubling.{Rounds}
use Rattle.verdict.proofs.Pairs.{walk_letters}
use Rattle.verdict.proofs.Routes.{shown_length, route_walk, led}
use Rattle.verdict.proofs.Shortest.{shortest}
use Rattle.verdict.proofs.Parting.{Parting, PartedIn, shown_steps, short_parting, parting, walks_meet, walks_same}
use Rattle.verdict.proofs.Pivots.{first_pivot_is, Loops, pivot_loops}

-- ---- single and steady

abbrev pub both_last : Graph → ℕ → ℕ → Bool
both_last g c d = g.last c && g.last d

pub unambiguous : (g : Graph) → Trim g → ambiguous g ≡ false → (s : List ℕ) (r u : List Transition) → is_reading g s r ≡ true → is_reading g s u ≡ true → r ≡ u
unambiguous g trim h s r u x y =
    let v = reads_goes g 0 s r x in
    let w = reads_goes g 0 s u y in
    walks_same g trim 0 (both_last g) h s r u v.0 w.0 (and_of (g.last (end_of 0 (path r))) (g.last (end_of 0 (path u))) v.1 w.1)

-- the two walks to ends are readings
abbrev parting_two : (g : Graph) (p : Parting g 0 (both_last g)) → TwoReadings g p.text
parting_two g p =
    let l = and_parts (g.last (end_of 0 (path p.one))) (g.last (end_of 0 (path p.other))) p.passes in
    record {
      one = p.one;
      other = p.other;
      reads_one = goes_reads g 0 p.text p.one (p.goes_one, l.0);
      reads_other = goes_reads g 0 p.text p.other (p.goes_other, l.1);
      differ = p.differ;
    }

-- a text with two readings is two such walks over its letters
pub two_parted : (g : Graph) (trim : Trim g) (s : List ℕ) → 2 ≤ readings g s → PartedIn g trim 0 (both_last g) (length s)
two_parted g trim s h =
    let t = count_two g s h in
    let v = reads_goes g 0 s t.one t.reads_one in
    let w = reads_goes g 0 s t.other t.reads_other in
    ⊎_elim (λ m. m) (λ e. absurd (t.differ e))
    (walks_meet g trim 0 (both_last g) s t.one t.other v.0 w.0 (and_of (g.last (end_of 0 (path t.one))) (g.last (end_of 0 (path t.other))) v.1 w.1))

pub parting_steady : (g : Graph) (p : Parting g 0 (both_last g)) → ((t : List ℕ) → 2 ≤ readings g t → length p.text ≤ length t) → ShowsSteady g p.text
parting_steady g p least =
    let t = parting_two g p in
    record {
      letters = p.letters;
      short = p.few;
      one = t.one;
      other = t.other;
      reads_one = t.reads_one;
      reads_other = t.reads_other;
      differ = t.differ;
      letters_shown = p.letters_shown;
      shortest = least;
    }

-- a shortest text with two readings has as many letters as the two walks have steps, and so has the text shown for them
pub steady_shows : (g : Graph) → Trim g → ambiguous g ≡ true → (s : List ℕ) × ShowsSteady g s
steady_shows g trim h =
    let p = parting g trim 0 (both_last g) h in
    let t = parting_two g p in
    let two = two_count g p.text t.one t.other t.reads_one t.reads_other t.differ in
    let m = shortest (λ s. leb 2 (readings g s)) letters p.text (le-leb 2 (readings g p.text) two) in
    let least : (s : List ℕ) → 2 ≤ readings g s → length m.text ≤ length s = λ s k. m.least s (le-leb 2 (readings g s) k) in
    let k = two_parted g trim m.text (leb-true 2 (readings g m.text) m.passes) in
    let way = k.paths.way in
    let size = k.size in
    let few = p.few in
    let l = least p.text two in
    let q = short_parting g trim 0 (both_last g) k.paths.to k.paths.passes (record { nodes = way.nodes; goes = way.goes; ends = way.ends; few = omega arith }) in
    let steps = shown_steps g way.nodes in
    (q.text, parting_steady g q (λ s h. let f = least s h in omega arith))
  where
    letters : (s : List ℕ) → leb 2 (readings g s) ≡ true → all_letters s ≡ true
    letters s k =
        let r = count_reading g s (omega (arith, leb-true 2 (readings g s) k)) in
        walk_letters g trim.letters 0 s (path r.0) (reads_goes g 0 s r.0 r.1).0.0

-- ---- runaway

-- a list with an entry leads to the same from anywhere
end_any : (a b : ℕ) (c : List ℕ) → 1 ≤ length c → end_of a c ≡ end_of b c
end_any a b [] l = absurd (omega arith)
end_any a b (x ∷ c) l = refl

some_in : (r : List ℕ) → 1 ≤ end_of 0 r → 1 ≤ length r
some_in [] l = l
some_in (i ∷ r) l = omega arith

-- in, once round, and out
round : (g : Graph) (q : ℕ) (x y z : List ℕ) (a c e : List Transition) → Goes g 0 x a → end_of 0 (path a) ≡ q → Goes g q y c → end_of q (path c) ≡ q → Reads g q z e → Reads g 0 (x ++ (y ++ z)) (a ++ (c ++ e))
round g q x y z a c e w comes v back r =
    reads_append g 0 x (y ++ z) a (c ++ e) w
    (subst (λ (t : ℕ). Reads g t (y ++ z) (c ++ e)) (sym comes) (reads_append g q y z c e v (subst (λ (t : ℕ). Reads g t z e) (sym back) r)))

-- letters that lead to q are no fewer than the positions of a way in
abbrev pub Nearest : Graph → ℕ → List ℕ → Type 0
Nearest g q way_in = (s : List ℕ) → possible g s q ≡ true → length way_in ≤ length s

module _ (g : Graph) (trim : Trim g) where
  -- a nearest way in, a way out and two loops, whichever they are
  pub loops_runaway : is_position g (first_pivot g) ≡ true → (w : Useful g (first_pivot g)) (m : Loops g (first_pivot g)) → Nearest g (first_pivot g) w.way_in
      → ShowsRunaway g (shown g w.way_in w.way_in) m.text (shown g w.way_out w.way_out)
  loops_runaway i w m near =
      let q = first_pivot g in
      let x = shown g w.way_in w.way_in in
      let y = m.text in
      let z = shown g w.way_out w.way_out in
      let way_in = plain w.way_in in
      let way_out = plain w.way_out in
      let in_is = path_plain w.way_in in
      let out-is = path_plain w.way_out in
      let goes_in = walk_plain g 0 x w.way_in (route_walk g trim 0 w.way_in w.goes_in) in
      let comes : end_of 0 (path way_in) ≡ q = ap (end_of 0) in_is ∙ w.comes in
      let out : Reads g q z way_out = (walk_plain g q z w.way_out (route_walk g trim q w.way_out w.goes_out), ap (λ (l : List ℕ). g.last (end_of q l)) out-is ∙ w.ends) in
      let reads_one = round g q x y z way_in m.one way_out goes_in comes m.goes_one m.one_back out in
      let reads_other = round g q x y z way_in m.other way_out goes_in comes m.goes_other m.other_back out in
      let low = (position_of g q i).0 in
      let there = w.comes in
      let enters = some_in w.way_in (omega arith) in
      let lx = shown_length g w.way_in in
      let lz = shown_length g w.way_out in
      let some = m.some in
      let short_in = w.short_in in
      let short_out = w.short_out in
      let l1 = walk_length g q y (path m.one) m.goes_one.0 in
      let l2 = walk_length g q y (path m.other) m.goes_other.0 in
      record {
        letters = walk_letters g trim.letters 0 (x ++ (y ++ z)) (path (way_in ++ (m.one ++ way_out))) reads_one.0.0;
        some_x = omega arith;
        short_x = omega arith;
        some_y = some;
        short_y = m.few;
        short_z = omega arith;
        way_in = way_in;
        loop = m.one;
        other = m.other;
        way_out = way_out;
        reads_loop = goes_reads g 0 (x ++ (y ++ z)) (way_in ++ (m.one ++ way_out)) reads_one;
        reads_other = goes_reads g 0 (x ++ (y ++ z)) (way_in ++ (m.other ++ way_out)) reads_other;
        differ = m.differ;
        first = comes;
        back = end_any 0 q (path m.one) (omega arith) ∙ m.one_back;
        other_back = end_any 0 q (path m.other) (omega arith) ∙ m.other_back;
        shortest_x = λ s h. let l = near s h in omega arith;
        letters_shown_x = ap₂ (shown g) (sym in_is) (sym in_is);
        letters_shown_y = m.letters_shown;
        letters_shown_z = ap₂ (shown g) (sym out-is) (sym out-is);
      }

  -- the text shown for some way in leads to q, so that there is a shortest that does
  nearest : (q : ℕ) → is_position g q ≡ true → (w : Useful g q) × Nearest g q w.way_in
  nearest q i =
      let w = trim.useful q i in
      let x = shown g w.way_in w.way_in in
      let comes = subst (λ (v : ℕ). possible g x v ≡ true) w.comes (walk_leads g 0 x w.way_in (route_walk g trim 0 w.way_in w.goes_in)) in
      let m = shortest (λ s. possible g s q) (λ s h. let r = leads_walk g 0 s q h in walk_letters g trim.letters 0 s r.0 r.1) x comes in
      let l = led g 0 m.text q m.passes in
      let size = l.size in
      let few = w.short_in in
      let least = m.least x comes in
      let letters = shown_length g w.way_in in (
        record {
          way_in = l.way;
          goes_in = l.goes;
          comes = l.comes;
          short_in = omega arith;
          way_out = w.way_out;
          goes_out = w.goes_out;
          ends = w.ends;
          short_out = w.short_out;
        },
        λ s h. let n = m.least s h in omega arith,
      )

  pub runaway_shows : (first_pivot g ≡ 0 → ⊥) → (x : List ℕ) × (y : List ℕ) × (z : List ℕ) × ShowsRunaway g x y z
  runaway_shows h =
      let p = first_pivot_is g h in
      let n = nearest (first_pivot g) p.0 in
      let w = n.0 in
      let m = pivot_loops g trim (first_pivot g) p.1 in
      (shown g w.way_in w.way_in, m.text, shown g w.way_out w.way_out, loops_runaway p.0 w m n.1)

-- ---- what a runaway's texts say of walks

module _ (g : Graph) (x y z : List ℕ) where
  -- one of the two readings, taken apart at the first pivot
  record Round (way_in loop way_out : List Transition) : Type 0 where
    goes_in : Goes g 0 x way_in
    goes_loop : Goes g (first_pivot g) y loop
    back : end_of (first_pivot g) (path loop) ≡ first_pivot g
    goes_out : Reads g (first_pivot g) z way_out

  round_of : (a c e : List Transition) → length x ≡ length a → length z ≡ length e → 1 ≤ length y → is_reading g (x ++ (y ++ z)) (a ++ (c ++ e)) ≡ true
      → end_of 0 (path a) ≡ first_pivot g → end_of 0 (path c) ≡ first_pivot g → Round a c e
  round_of a c e la le some h first back =
      let q = first_pivot g in
      let v = reads_split g 0 x (y ++ z) a (c ++ e) (sym la) (reads_goes g 0 (x ++ (y ++ z)) (a ++ (c ++ e)) h) in
      let rest = subst (λ (t : ℕ). Reads g t (y ++ z) (c ++ e)) first v.1 in
      let l = goes_length g q (y ++ z) (c ++ e) rest.0 in
      let l1 = length-append c e in
      let l2 = length-append y z in
      let l3 = length-map c (λ (t : Transition). t.position) in
      let w = reads_split g q y z c e (omega arith) rest in
      let b : end_of q (path c) ≡ q = end_any q 0 (path c) (omega arith) ∙ back in
      record { goes_in = v.0; goes_loop = w.0; back = b; goes_out = subst (λ (t : ℕ). Reads g t z e) b w.1 }

  path_length : (t : List ℕ) (r : List Transition) → t ≡ shown g (path r) (path r) → length t ≡ length r
  path_length t r e = ap length e ∙ shown_length g (path r) ∙ length-map r (λ (x : Transition). x.position)

  one_round : (r : ShowsRunaway g x y z) → Round r.way_in r.loop r.way_out
  one_round r = round_of r.way_in r.loop r.way_out (path_length x r.way_in r.letters_shown_x) (path_length z r.way_out r.letters_shown_z) r.some_y r.reads_loop r.first r.back

  pub runaway_leads : ShowsRunaway g x y z → possible g x (first_pivot g) ≡ true
  runaway_leads r = subst (λ (v : ℕ). possible g x v ≡ true) r.first (walk_leads g 0 x (path r.way_in) (one_round r).goes_in.0)

  pub runaway_rounds : ShowsRunaway g x y z → Rounds g x y z
  runaway_rounds r =
      let one = one_round r in
      let other = round_of r.way_in r.other r.way_out (path_length x r.way_in r.letters_shown_x) (path_length z r.way_out r.letters_shown_z) r.some_y r.reads_other r.first r.other_back in
      record {
        pivot = first_pivot g;
        way_in = r.way_in;
        loop = r.loop;
        other = r.other;
        way_out = r.way_out;
        comes = one.goes_in;
        first = r.first;
        turns = one.goes_loop;
        back = one.back;
        other_turns = other.goes_loop;
        other_back = other.back;
        differ = r.differ;
        ends = one.goes_out;
      }
