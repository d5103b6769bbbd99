-- The loop of a step: position after position of the new row is filled. Assumes nothing.
use Rattle.std.proofs.Common.{◌≡◌, ℕ, ◌+◌, ◌%◌, ◌^◌, ◌<◌, ◌≤◌, Bool, true, false, ◌&&◌, ◌||◌, eqb, ltb, List, length, get_or, slice_index, set, sym, ap, ◌∙◌, subst, ⊎_elim, arith, length-set, get_or-set_other, get_or-set_same, le-ltb, lt-ltb, eqb-true}
use mathlib.Core.Bool.{or_assoc, or-false, false≢true}
use Rattle.basics.specs.Folds.{any_if}
use Rattle.basics.proofs.Tests.{or_cases, by_equal}
use Rattle.basics.proofs.Lists.{set_keeps}
use Rattle.bits.specs.Bits.{has_bit, Taken}
use Rattle.bits.proofs.Laws.{has_none, has_high, lt_of_high, member_below}
use Rattle.bits.proofs.Walk.{any_turn, walk_end, kept}
use Rattle.frontier.specs.Rows.{count_of, most_of, arriving, weighted, Stepped}
use Rattle.frontier.specs.declared.Links.{Links}
use Rattle.frontier.specs.declared.Row.{Row}

module _ (links : Links) (holds : ℕ) (row : Row) where
  abbrev members : ℕ → ℕ
  members i = arriving links.before.now row.active i

  -- can position i be reached
  abbrev reached : ℕ → Bool
  reached i = ltb 0 (members i)

  -- what position i may have
  pub record Filled (i count most : ℕ) : Type 0 where
    pub counted : count ≡ count_of (members i) (weighted links.more i (slice_index row.counts))
    pub marked : most ≡ (most_of (members i) (slice_index row.most) + get_or links.credits.now i 0) % 2 ^ 32

  same_as : (i a b : ℕ) {c m : ℕ} → a ≡ c → b ≡ m → Filled i c m → Filled i a b
  same_as i a b e f filled = record { counted = e ∙ filled.counted; marked = f ∙ filled.marked }

  -- the positions in `left` wait, and `out` has those of the others that can be reached
  pub record Filling (counts most : List ℕ) (left out : ℕ) : Type 0 where
    pub small : left < 2 ^ 61
    pub fits : out < 2 ^ 64
    pub sizes : (length counts ≡ 61) × (length most ≡ 61)
    pub states : (j : ℕ) → (has_bit out j || any_if (has_bit left) (λ i. reached i && eqb i j) 61) ≡ (has_bit holds j && reached j)
    pub stopped : (i : ℕ) → get_or counts i 0 ≤ 2 ^ 63
    pub filled : (i : ℕ) → has_bit out i ≡ true → Filled i (get_or counts i 0) (get_or most i 0)

  pub below : {counts most : List ℕ} {left out t r : ℕ} → Filling counts most left out → Taken has_bit (λ (m : ℕ). m) left t r → t < 61
  below {left} {t} h taken = member_below 61 left t h.small taken.least.here

  pub filling_start : (low : holds < 2 ^ 61) (counts most : List ℕ) → length counts ≡ 61 → length most ≡ 61 → ((i : ℕ) → get_or counts i 0 ≤ 2 ^ 63) → Filling counts most holds 0
  filling_start low counts most c m cut = record {
    small = low;
    fits = omega arith;
    sizes = (c, m);
    stopped = cut;
    states = λ j. ap (λ (b : Bool). b || any_if (has_bit holds) (λ i. reached i && eqb i j) 61) (has_none j) ∙ kept 61 holds low reached j;
    filled = λ i e. absurd (false≢true (sym (has_none i) ∙ e));
  }

  module _ (counts most : List ℕ) (left out : ℕ) (h : Filling counts most left out) where
    -- position t is taken: it is reached or not
    states_on : (s : Bool) (t r out' : ℕ) → Taken has_bit (λ (m : ℕ). m) left t r → reached t ≡ s → ((j : ℕ) → has_bit out' j ≡ (has_bit out j || (s && eqb t j)))
        → (j : ℕ) → (has_bit out' j || any_if (has_bit r) (λ i. reached i && eqb i j) 61) ≡ (has_bit holds j && reached j)
    states_on s t r out' taken is e j =
        ap (λ (b : Bool). b || any_if (has_bit r) (to_be j) 61) (e j ∙ ap (λ (b : Bool). has_bit out j || (b && eqb t j)) (sym is))
        ∙ or_assoc (has_bit out j) (to_be j t) (any_if (has_bit r) (to_be j) 61)
        ∙ ap (λ (b : Bool). has_bit out j || b) (sym (any_turn 61 left t r h.small taken (to_be j))) ∙ h.states j
      where
        to_be : ℕ → ℕ → Bool
        to_be j i = reached i && eqb i j

    pub filling_on : (t r out' count greatest : ℕ) → Taken has_bit (λ (m : ℕ). m) left t r → (members t ≡ 0 → ⊥) → out' < 2 ^ 64
        → ((j : ℕ) → has_bit out' j ≡ (has_bit out j || eqb t j)) → Filled t count greatest → Filling (set counts t count) (set most t greatest) r out'
    filling_on t r out' count greatest taken some fits e made =
        let low = member_below 61 left t h.small taken.least.here in
        let fewer = taken.fewer in
        record {
          small = omega (arith, h.small);
          fits = fits;
          sizes = (length-set counts t count ∙ h.sizes.0, length-set most t greatest ∙ h.sizes.1);
          states = states_on true t r out' taken (lt-ltb 0 (members t) (omega (arith, some))) e;
          stopped = set_keeps (λ (n : ℕ). n ≤ 2 ^ 63) counts t count 0 (omega (arith, made.counted)) h.stopped;
          filled = λ i k.
              by_equal t i
              (λ z. subst (λ (j : ℕ). Filled j (get_or (set counts t count) j 0) (get_or (set most t greatest) j 0)) z
              (same_as t _ _ (get_or-set_same counts t count 0 (omega (arith, h.sizes.0))) (get_or-set_same most t greatest 0 (omega (arith, h.sizes.1))) made))
              (λ d.
              same_as i _ _ (get_or-set_other counts t i count 0 (λ z. d (sym z))) (get_or-set_other most t i greatest 0 (λ z. d (sym z)))
              (h.filled i (⊎_elim (λ m. m) (λ m. absurd (d (eqb-true t i m))) (or_cases (has_bit out i) (eqb t i) (sym (e i) ∙ k)))));
        }

    pub filling_past : (t r : ℕ) → Taken has_bit (λ (m : ℕ). m) left t r → members t ≡ 0 → Filling counts most r out
    filling_past t r taken none =
        let fewer = taken.fewer in
        record {
          small = omega (arith, h.small);
          fits = h.fits;
          sizes = h.sizes;
          stopped = h.stopped;
          states = states_on false t r out taken (le-ltb 0 (members t) (omega (arith, none))) (λ j. sym (or-false (has_bit out j)));
          filled = h.filled;
        }

    pub filling_end : holds < 2 ^ 61 → ((i : ℕ) → has_bit left i ≡ false)
        → (out < 2 ^ 61) × ((next : Row) → next.active ≡ out → next.counts ≡ counts → next.most ≡ most → Stepped links holds row next)
    filling_end low none = (
      lt_of_high 61 out h.fits (λ j l. states j ∙ ap (λ (b : Bool). b && reached j) (has_high 61 holds j low l)),
      λ next a c m. record {
        states = λ j. ap (λ (n : ℕ). has_bit n j) a ∙ states j;
        counted = λ j e. ap (λ (l : List ℕ). slice_index l j) c ∙ (h.filled j (sym (ap (λ (n : ℕ). has_bit n j) a) ∙ e)).counted;
        marked = λ j e. ap (λ (l : List ℕ). slice_index l j) m ∙ (h.filled j (sym (ap (λ (n : ℕ). has_bit n j) a) ∙ e)).marked;
      },
    )
      where
        states : (j : ℕ) → has_bit out j ≡ (has_bit holds j && reached j)
        states j =
            sym (ap (λ (b : Bool). has_bit out j || b) (walk_end false ◌||◌ (λ i. reached i && eqb i j) 61 left none) ∙ or-false (has_bit out j)) ∙ h.states j
