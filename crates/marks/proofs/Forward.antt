-- Forward rows give the backward counts. One theorem for all folds: what the possible states make of the letters to come is what
-- the next row makes of those after the first, since the pairs of a state and a position after it, each as often as links lead from
-- the one to the other, can be taken in either order.
-- Assumes nothing.
use mathlib.Core.Path.{◌≡◌, refl, sym, ap, ap₂, ◌∙◌, subst}
use mathlib.Core.Logic.{⊎_elim}
use mathlib.Core.Bool.{Bool, true, false, not, ◌&&◌, and-true, and-false, and_comm, ◌||◌, or-false, or_comm, or_assoc, true≢false, false≢true}
use mathlib.Core.List.{List, [], ◌∷◌, ◌++◌, append-nil, append_assoc}
use Prim.Native.Nat.{ℕ, suc, ◌+◌, ◌*◌, ◌%◌, ◌^◌, ◌≤◌, ◌<◌, zero-le, min, max}
use native.Mathlib.Nat.{add-zero, zero-add, add_comm, add_assoc, mul-zero, mul-one, one-mul, mul-add, mul_comm, mul_assoc, mod-eq_of_lt, lt_of_le_of_lt}
use native.Mathlib.Omega.{arith}
use lib.Bits.{bit_and, and_le_l, and_le_r}
use lib.Count.{count_trailing_zeros}
use lib.Dec.{eqb, ltb}
use lib.IntN.{ℤ, pos, nat_abs, ◌+ℤ◌, +ℤ_idr}
use lib.ListN.{length, get_or, length-append}
use borrow.Author.Tests.{eqb-true, eq-eqb, ne_eqb, ltb-true, ltb-false}
use Rattle.std.specs.Prelude.{slice_index, if◌then◌else◌, Option, None, Some}
use Rattle.std.specs.Borrow.{Bor}
use Rattle.basics.specs.Folds.{fold_if, sum_if, any_if}
use Rattle.basics.proofs.Tests.{and_parts, by_test, le_or_lt, if_yes, if_no, if_either}
use Rattle.basics.proofs.Lists.{within_any}
use Rattle.basics.proofs.Folds.{fold_zero, fold_yes, fold_same, fold_keeps, fold_through, fold_longer, fold_where, fold_swap, fold_none, any_one, any_same, max_le}
use Rattle.bits.specs.Bits.{has_bit}
use Rattle.bits.proofs.Laws.{has_none, has_pow, has_and, least_trailing, member_below}
use Rattle.bits.proofs.Walk.{walk_end}
use Rattle.graph.specs.Graph.{Graph, some, is_position, next, step, Bounded}
use Rattle.graph.specs.Built.{lowered, credit_in}
use Rattle.graph.specs.Readings.{count_from, readings, no_reading, earns, better, added, best_from, mark_of}
use Rattle.graph.specs.Taken.{leads, possible, dead}
use Rattle.graph.proofs.Walks.{position_of}
use Rattle.graph.proofs.Best.{better_none, better_comm, better_assoc, added_better, added_twice, added_nothing, lowered_adds, lowered_low, raised_low}
use Rattle.graph.proofs.Marks.{mark_none}
use Rattle.graph.proofs.Taken.{possible_live}
use Rattle.frontier.specs.Rows.{count_of, most_of, arriving, weight, weighted, Begun, Stepped}
use Rattle.frontier.specs.declared.Links.{Links}
use Rattle.frontier.specs.declared.Row.{Row}
use Rattle.marks.specs.Answers.{best_of, After, links_of_tables, Summed}
use Rattle.marks.proofs.Values.{sum_cut, sum_times, best_added}

no_members : (m : ℕ) → m ≡ 0 → (i : ℕ) → has_bit m i ≡ false
no_members m z i = ap (λ (x : ℕ). has_bit x i) z ∙ has_none i

-- ---- one letter on

module _ (g : Graph) (bounded : Bounded g) (b : ℕ) (before : List ℕ) (active holds r : ℕ) (follows : (u i : ℕ) → next g u i ≡ has_bit (get_or before i 0) u)
    (held : (i : ℕ) → g.holds i b ≡ has_bit holds i) (states : (i : ℕ) → has_bit r i ≡ (has_bit holds i && ltb 0 (arriving before active i))) where
  meets : (u i : ℕ) → (has_bit active u && step g u b i) ≡ (has_bit holds i && has_bit (arriving before active i) u)
  meets u i =
      ap₂ (λ (x y : Bool). has_bit active u && (is_position g i && (x && y))) (follows u i) (held i)
      ∙ turned (has_bit active u) (is_position g i) (has_bit (get_or before i 0) u) (has_bit holds i) (λ e. bounded.holds_at i b (held i ∙ e))
      ∙ ap (λ (x : Bool). has_bit holds i && x) (sym (has_and (get_or before i 0) active u))
    where
      turned : (a p n h : Bool) → (h ≡ true → p ≡ true) → (a && (p && (n && h))) ≡ (h && (n && a))
      turned a p n true k = simp (k refl, and-true) (and_comm a n)
      turned a p n false k = simp and-false

  beyond : (i : ℕ) → suc g.positions ≤ i → has_bit r i ≡ false
  beyond i l =
      by_test (has_bit holds i) (λ e. let p = position_of g i (bounded.holds_at i b (held i ∙ e)) in absurd (omega arith))
      (λ e. states i ∙ ap (λ (x : Bool). x && ltb 0 (arriving before active i)) e)

  onward : {A : Type 0} (none : A) (join : A → A → A) → ((a : A) → join a none ≡ a) → ((a c : A) → join a c ≡ join c a) → ((a c d : A) → join (join a c) d ≡ join a (join c d))
      → (act : ℕ → A → A) → ((u : ℕ) → act u none ≡ none) → ((u : ℕ) (x y : A) → act u (join x y) ≡ join (act u x) (act u y)) → (f : ℕ → ℕ → A)
      → fold_if none join (has_bit active) (λ u. act u (fold_if none join (step g u b) (f u) (suc g.positions))) 61
      ≡ fold_if none join (has_bit r) (λ i. fold_if none join (has_bit (arriving before active i)) (λ u. act u (f u i)) 61) 61
  onward {A} none join right comm assoc act z k f =
      let few = bounded.few in
      fold_same none join (has_bit active) (has_bit active) (λ u. act u (fold_if none join (step g u b) (f u) n)) (λ u. fold_if none join (step g u b) (λ i. act u (f u i)) n) 61
      (λ u l. refl) (λ u l e. fold_through none join none join (act u) (z u) (k u) (step g u b) (f u) n)
      ∙ fold_swap none join right comm assoc (has_bit active) (has_bit holds) (λ u. step g u b) (λ i. has_bit (arriving before active i)) meets (λ u i. act u (f u i)) 61 n
      ∙ fold_where none join right (has_bit holds) (λ i. ltb 0 (arriving before active i)) (has_bit r) here here states (λ i e. refl)
      (λ i e. let l = ltb-false 0 (arriving before active i) e in walk_end none join (λ u. act u (f u i)) 61 (arriving before active i) (no_members (arriving before active i) (omega arith))) n
      ∙ sym (fold_longer none join (has_bit r) here n 61 (omega arith) beyond)
    where
      n : ℕ
      n = suc g.positions

      here : ℕ → A
      here i = fold_if none join (has_bit (arriving before active i)) (λ u. act u (f u i)) 61

-- the tables have a link where they have the state before the position
some_tables : (t : Bool) (more : Option (Bor (List ℕ))) (u i : ℕ) → some (if t then weight more u i else 0) ≡ t
some_tables true (Some more) u i = refl
some_tables true None u i = refl
some_tables false more u i = refl

-- ---- rows

-- before any letter: what one state comes to
alone : {A : Type 0} (none : A) (join : A → A → A) (f : ℕ → A) → fold_if none join (has_bit 1) f 61 ≡ join none (f 0)
alone {A} none join f =
    fold_longer none join (has_bit 1) f 1 61 (omega arith) (λ i l. has_pow 0 i ∙ ne_eqb 0 i (λ z. omega arith))
    ∙ fold_yes none join (has_bit 1) f 0 (has_pow 0 0) ∙ ap (λ (a : A). join a (f 0)) (fold_zero none join (has_bit 1) f)

module _ (g : Graph) (row : Row) (begun : Begun row) where
  over_one : {A : Type 0} (none : A) (join : A → A → A) (f : ℕ → A) → fold_if none join (has_bit row.active) f 61 ≡ join none (f 0)
  over_one none join f = ap (λ (m : ℕ). fold_if none join (has_bit m) f 61) begun.alone ∙ alone none join f

  pub row_begin : After g [] row
  row_begin = record {
    counted = λ t.
        ap (λ (x : ℕ). min x (2 ^ 63))
        (over_one 0 ◌+◌ (λ u. slice_index row.counts u * count_from g u t) ∙ zero-add (slice_index row.counts 0 * readings g t)
        ∙ ap (λ (x : ℕ). x * readings g t) begun.one ∙ one-mul (readings g t));
    marked = λ t.
        over_one no_reading better (λ u. added (lowered 0 (slice_index row.most u)) (best_from g u t))
        ∙ ap (λ (x : ℕ). added (lowered 0 x) (best_from g 0 t)) begun.nothing ∙ added_nothing (best_from g 0 t);
    low = λ u e.
        let z = eqb-true 0 u (sym (has_pow 0 u) ∙ ap (λ (m : ℕ). has_bit m u) (sym begun.alone) ∙ e) in
        subst (λ (v : ℕ). slice_index row.most v ≤ 0) z (omega (arith, begun.nothing));
    reached = λ t v. over_one false ◌||◌ (λ u. leads g u t v);
  }

-- the greatest raised sum of possible states
sums_low : (g : Graph) (s : List ℕ) (row : Row) → After g s row → (m : ℕ) → ((u : ℕ) → has_bit m u ≡ true → has_bit row.active u ≡ true)
    → most_of m (slice_index row.most) ≤ 18 * length s
sums_low g s row after m h =
    fold_keeps 0 max (λ (a : ℕ). a ≤ 18 * length s) zero-le (λ a c. max_le a c (18 * length s)) (has_bit m) (slice_index row.most) 61 (λ u l e. after.low u (h u e))

-- one letter more
module _ (g : Graph) (bounded : Bounded g) (b : ℕ) (tables : Links) (holds : ℕ) (row row' : Row) (s : List ℕ)
    (links : (u i : ℕ) → g.links u i ≡ links_of_tables tables u i) (held : (i : ℕ) → g.holds i b ≡ has_bit holds i) (earned : (i : ℕ) → g.credit i ≡ credit_in tables.credits.now i) (long : length tables.credits.now ≡ 61)
    (short : length s ≤ 4096) (after : After g s row) (st : Stepped tables holds row row') where
  abbrev before_at : ℕ → ℕ
  before_at i = get_or tables.before.now i 0

  -- the states that arrive at i
  abbrev arriving_at : ℕ → ℕ
  arriving_at = arriving tables.before.now row.active

  abbrev here : ℕ → ℕ → Bool
  here i = has_bit (arriving_at i)

  here_parts : (i u : ℕ) → here i u ≡ true → (has_bit (before_at i) u ≡ true) × (has_bit row.active u ≡ true)
  here_parts i u e = and_parts (has_bit (before_at i) u) (has_bit row.active u) (sym (has_and (before_at i) row.active u) ∙ e)

  follows : (u i : ℕ) → next g u i ≡ has_bit (before_at i) u
  follows u i = ap some (links u i) ∙ some_tables (has_bit (before_at i) u) tables.more u i

  -- a count by the links, times what is to come
  by_weights : (i u y : ℕ) → here i u ≡ true → weighted tables.more i (slice_index row.counts) u * y ≡ slice_index row.counts u * (g.links u i * y)
  by_weights i u y e =
      let w = weight tables.more u i in
      let x = slice_index row.counts u in
      ap (λ (z : ℕ). z * y) (mul_comm w x) ∙ mul_assoc x w y ∙ ap (λ (z : ℕ). x * (z * y)) (sym (links u i ∙ if_yes w 0 (has_bit (before_at i) u) (here_parts i u e).0))

  -- the greatest raised sum of those that arrive at i
  abbrev most : ℕ → ℕ
  most i = most_of (arriving_at i) (slice_index row.most)

  most_low : (i : ℕ) → most i ≤ 18 * length s
  most_low i = sums_low g s row after (arriving_at i) (λ u e. (here_parts i u e).1)

  -- its own raised credit
  abbrev own : ℕ → ℕ
  own i = get_or tables.credits.now i 9

  own_low : (i : ℕ) → own i ≤ 18
  own_low i = raised_low (own i) (subst (λ (c : ℤ). nat_abs c ≤ 9) (earned i) (bounded.credits i))

  best_here : (i : ℕ) → has_bit row'.active i ≡ true → slice_index row'.most i ≡ most i + own i
  best_here i e =
      let m = most_low i in
      let c = own_low i in
      let q : get_or tables.credits.now i 0 ≡ own i = within_any tables.credits.now i 0 9 (omega (arith, member_below 61 row'.active i row'.states e)) in
      st.marked i e ∙ ap (λ (x : ℕ). (most i + x) % 2 ^ 32) q ∙ mod-eq_of_lt (omega arith)

  -- one raised credit more, for one letter more
  raised_on : (i : ℕ) → has_bit row'.active i ≡ true → lowered (length (s ++ (b ∷ []))) (slice_index row'.most i) ≡ lowered (length s) (most i) +ℤ g.credit i
  raised_on i e =
      ap₂ lowered (length-append s (b ∷ [])) (best_here i e) ∙ sym (lowered_adds (length s) 1 (most i) (own i)) ∙ ap (λ (c : ℤ). lowered (length s) (most i) +ℤ c) (sym (earned i))

  -- some state arrives at i
  abbrev arrives : ℕ → ℕ
  arrives i = count_trailing_zeros 61 (arriving_at i)

  some_arrives : (i : ℕ) → has_bit row'.active i ≡ true → (arrives i < 61) × (here i (arrives i) ≡ true)
  some_arrives i e =
      let m = arriving_at i in
      let some = ltb-true 0 m (and_parts (has_bit holds i) (ltb 0 m) (sym (st.states i) ∙ e)).1 in
      let u = least_trailing 61 m some (lt_of_le_of_lt (and_le_r (before_at i) row.active) row.states) in
      (u.0, u.1.here)

  gathered : (t : List ℕ) (i : ℕ) → has_bit row'.active i ≡ true
      → added (lowered (length (s ++ (b ∷ []))) (slice_index row'.most i)) (best_from g i t) ≡ best_of (arriving_at i) (λ u. added (lowered (length s) (slice_index row.most u)) (added (g.credit i) (best_from g i t)))
  gathered t i e =
      let u = some_arrives i e in
      ap (λ (c : ℤ). added c (best_from g i t)) (raised_on i e) ∙ sym (added_twice (lowered (length s) (most i)) (g.credit i) (best_from g i t))
      ∙ sym (best_added (here i) (slice_index row.most) 61 (arrives i) u.0 u.1 (length s) (added (g.credit i) (best_from g i t)))

  pub row_on : After g (s ++ (b ∷ [])) row'
  row_on = record {
    counted = λ t.
        sum_cut (2 ^ 63) (has_bit row'.active) (λ i. slice_index row'.counts i * count_from g i t) (λ i. sum_if (here i) (λ u. slice_index row.counts u * (g.links u i * count_from g i t)) 61) 61
        (λ i e.
        sum_times (2 ^ 63) (here i) (weighted tables.more i (slice_index row.counts)) 61 (slice_index row'.counts i) (count_from g i t) (st.counted i e)
        ∙ ap (λ (x : ℕ). min x (2 ^ 63))
        (fold_same 0 ◌+◌ (here i) (here i) (λ u. weighted tables.more i (slice_index row.counts) u * count_from g i t) (λ u. slice_index row.counts u * (g.links u i * count_from g i t)) 61 (λ u l. refl)
        (λ u l. by_weights i u (count_from g i t))))
        ∙ ap (λ (x : ℕ). min x (2 ^ 63))
        (sym (onward g bounded b tables.before.now row.active holds row'.active follows held st.states 0 ◌+◌ add-zero add_comm add_assoc (λ u x. slice_index row.counts u * x)
        (λ u. mul-zero (slice_index row.counts u)) (λ u. mul-add (slice_index row.counts u)) (λ u i. g.links u i * count_from g i t)))
        ∙ after.counted (b ∷ t) ∙ ap (λ (x : List ℕ). min (readings g x) (2 ^ 63)) (sym (append_assoc s (b ∷ []) t));
    marked = λ t.
        fold_same no_reading better (has_bit row'.active) (has_bit row'.active) (λ i. added (lowered (length (s ++ (b ∷ []))) (slice_index row'.most i)) (best_from g i t))
        (λ i. best_of (arriving_at i) (λ u. added (lowered (length s) (slice_index row.most u)) (added (g.credit i) (best_from g i t)))) 61 (λ i l. refl) (λ i l. gathered t i)
        ∙ sym (onward g bounded b tables.before.now row.active holds row'.active follows held st.states no_reading better better_none better_comm better_assoc (λ u x. added (lowered (length s) (slice_index row.most u)) x) (λ u. refl)
        (λ u. added_better (lowered (length s) (slice_index row.most u))) (λ u i. added (g.credit i) (best_from g i t)))
        ∙ after.marked (b ∷ t) ∙ ap (best_from g 0) (sym (append_assoc s (b ∷ []) t));
    low = λ i e.
        let c = own_low i in
        let m = most_low i in
        omega (arith, best_here i e, length-append s (b ∷ []));
    reached = λ t v.
        fold_same false ◌||◌ (has_bit row'.active) (has_bit row'.active) (λ i. leads g i t v) (λ i. any_if (here i) (λ u. leads g i t v) 61) 61 (λ i l. refl)
        (λ i l e. let u = some_arrives i e in sym (any_same (here i) (leads g i t v) 61 (arrives i) u.0 u.1))
        ∙ sym (onward g bounded b tables.before.now row.active holds row'.active follows held st.states false ◌||◌ or-false or_comm or_assoc (λ u x. x) (λ u. refl) (λ u x y. refl) (λ u i. leads g i t v))
        ∙ after.reached (b ∷ t) v ∙ ap (λ (x : List ℕ). possible g x v) (sym (append_assoc s (b ∷ []) t));
  }

-- where no state is possible, none will be
pub row_stop : (g : Graph) (s t : List ℕ) (row : Row) → row.active ≡ 0 → After g s row → After g (s ++ t) row
row_stop g s t row z after = record {
  counted = λ q. ap (λ (x : ℕ). min x (2 ^ 63)) (none 0 ◌+◌ (λ u. slice_index row.counts u * count_from g u q) (λ u. slice_index row.counts u * count_from g u (t ++ q)))
      ∙ after.counted (t ++ q) ∙ ap (λ (x : List ℕ). min (readings g x) (2 ^ 63)) (sym (append_assoc s t q));
  marked = λ q. none no_reading better (λ u. added (lowered (length (s ++ t)) (slice_index row.most u)) (best_from g u q)) (λ u. added (lowered (length s) (slice_index row.most u)) (best_from g u (t ++ q)))
      ∙ after.marked (t ++ q) ∙ ap (best_from g 0) (sym (append_assoc s t q));
  low = λ u e. absurd (true≢false (sym e ∙ ap (λ (m : ℕ). has_bit m u) z ∙ has_none u));
  reached = λ q v. none false ◌||◌ (λ u. leads g u q v) (λ u. leads g u (t ++ q) v) ∙ after.reached (t ++ q) v ∙ ap (λ (x : List ℕ). possible g x v) (sym (append_assoc s t q));
}
  where
    none : {A : Type 0} (n : A) (join : A → A → A) (f h : ℕ → A) → fold_if n join (has_bit row.active) f 61 ≡ fold_if n join (has_bit row.active) h 61
    none n join f h = walk_end n join f 61 row.active (no_members row.active z) ∙ sym (walk_end n join h 61 row.active (no_members row.active z))

-- the set of a row has the states that are possible
module _ (g : Graph) (s : List ℕ) (row : Row) (after : After g s row) where
  row_possible : (v : ℕ) → has_bit row.active v ≡ possible g s v
  row_possible v =
      sym (any_one (has_bit row.active) (λ u. true) 61 v (member_below 61 row.active v row.states) ∙ and-true (has_bit row.active v)) ∙ after.reached [] v ∙ ap (λ (x : List ℕ). possible g x v) (append-nil s)

  pub row_dead : dead g s ≡ eqb row.active 0
  row_dead =
      ⊎_elim
      (λ l.
      let z : row.active ≡ 0 = omega arith in
      ap not (fold_none false ◌||◌ (possible g s) (λ v. true) (suc g.positions) (λ v _. sym (row_possible v) ∙ ap (λ (m : ℕ). has_bit m v) z ∙ has_none v)) ∙ sym (eq-eqb row.active 0 z))
      (λ l.
      let u = least_trailing 61 row.active l row.states in
      possible_live g s (count_trailing_zeros 61 row.active) (sym (row_possible (count_trailing_zeros 61 row.active)) ∙ u.1.here) ∙ sym (ne_eqb row.active 0 (λ z. omega arith)))
      (le_or_lt row.active 0)

-- at the end the possible states at which a reading may end are counted
module _ (g : Graph) (s : List ℕ) (lasts : ℕ) (row : Row) (last : (u : ℕ) → g.last u ≡ has_bit lasts u) (after : After g s row) where
  abbrev ending : ℕ
  ending = bit_and row.active lasts

  abbrev count : ℕ
  count = count_of ending (slice_index row.counts)

  abbrev greatest : ℕ
  greatest = most_of ending (slice_index row.most)

  both : (u : ℕ) → has_bit ending u ≡ (has_bit row.active u && g.last u)
  both u = has_and row.active lasts u ∙ ap (λ (x : Bool). has_bit row.active u && x) (sym (last u))

  both_parts : (u : ℕ) → has_bit ending u ≡ true → (has_bit row.active u ≡ true) × (g.last u ≡ true)
  both_parts u e = and_parts (has_bit row.active u) (g.last u) (sym (both u) ∙ e)

  -- for both folds: where a reading may not end there is nothing to join
  at_end : {A : Type 0} (none : A) (join : A → A → A) → ((a : A) → join a none ≡ a) → (act : ℕ → A → A) → ((u : ℕ) → act u none ≡ none) → (here : A)
      → fold_if none join (has_bit row.active) (λ u. act u (if g.last u then here else none)) 61 ≡ fold_if none join (has_bit ending) (λ u. act u here) 61
  at_end none join right act z here =
      fold_where none join right (has_bit row.active) g.last (has_bit ending) (λ u. act u (if g.last u then here else none)) (λ u. act u here) both
      (λ u e. ap (act u) (if_yes here none (g.last u) (both_parts u e).1)) (λ u e. ap (act u) (if_no here none (g.last u) e) ∙ z u) 61

  counted_end : count ≡ min (readings g s) (2 ^ 63)
  counted_end =
      ap (λ (x : ℕ). min x (2 ^ 63))
      (fold_same 0 ◌+◌ (has_bit ending) (has_bit ending) (slice_index row.counts) (λ u. slice_index row.counts u * 1) 61 (λ u l. refl) (λ u l e. sym (mul-one (slice_index row.counts u)))
      ∙ sym (at_end 0 ◌+◌ add-zero (λ u x. slice_index row.counts u * x) (λ u. mul-zero (slice_index row.counts u)) 1))
      ∙ after.counted [] ∙ ap (λ (x : List ℕ). min (readings g x) (2 ^ 63)) (append-nil s)

  best_end : 0 < ending → best_from g 0 s ≡ earns (lowered (length s) greatest)
  best_end some =
      let u = least_trailing 61 ending some (lt_of_le_of_lt (and_le_l row.active lasts) row.states) in
      sym (after.marked [] ∙ ap (best_from g 0) (append-nil s))
      ∙ at_end no_reading better better_none (λ u x. added (lowered (length s) (slice_index row.most u)) x) (λ u. refl) (earns (pos 0))
      ∙ best_added (has_bit ending) (slice_index row.most) 61 (count_trailing_zeros 61 ending) u.0 u.1.here (length s) (earns (pos 0))
      ∙ ap earns (+ℤ_idr (lowered (length s) greatest))

  -- a count that is not 0 has a state that is counted
  some_end : (count ≡ 0 → ⊥) → 0 < ending
  some_end d = ⊎_elim (λ l. let z : ending ≡ 0 = omega arith in absurd (d (ap (λ (x : ℕ). min x (2 ^ 63)) (walk_end 0 ◌+◌ (slice_index row.counts) 61 ending (no_members ending z))))) (λ l. l) (le_or_lt ending 0)

  greatest_low : greatest ≤ 18 * length s
  greatest_low = sums_low g s row after ending (λ u e. (both_parts u e).0)

  pub row_end : Summed g s count greatest
  row_end = record {
    answered = record {
      counts = counted_end;
      marks = by_test (eqb count 0)
          (λ e. let z = eqb-true count 0 e in if_yes (pos 0) (lowered (length s) greatest) (eqb count 0) e ∙ sym (mark_none g s (omega (arith, counted_end))))
          (λ e. if_no (pos 0) (lowered (length s) greatest) (eqb count 0) e ∙ sym (ap mark_of (best_end (some_end (λ z. false≢true (sym e ∙ eq-eqb count 0 z))))));
      small = if_either (λ (z : ℤ). nat_abs z ≤ 9 * length s) (pos 0) (lowered (length s) greatest) (eqb count 0) (λ e. zero-le) (λ e. lowered_low (length s) greatest greatest_low);
    };
    low = greatest_low;
  }
