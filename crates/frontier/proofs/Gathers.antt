-- The loops that take counts together, each with its weight v, and greatest credits w, or these alone: the members in `left` wait.
-- Assumes nothing.
use Rattle.std.proofs.Common.{◌≡◌, ℕ, suc, ◌+◌, ◌*◌, ◌^◌, ◌<◌, ◌≤◌, min, max, true, false, sym, ap, ◌∙◌, ⊎_elim, arith}
use mathlib.Core.Bool.{false≢true}
use Rattle.basics.specs.Folds.{sum_if}
use Rattle.basics.proofs.Tests.{by_equal, le_or_lt}
use Rattle.basics.proofs.Folds.{less_here, less_other}
use Rattle.bits.specs.Bits.{has_bit, Taken}
use Rattle.bits.proofs.Laws.{member_below}
use Rattle.bits.proofs.Walk.{sum_turn, most_turn, walk_end}
use Rattle.frontier.specs.Rows.{count_of, most_of}

-- a sum that is cut may have been cut before
pub cut_sum : (c a x : ℕ) → min (a + min x c) c ≡ min (a + x) c
cut_sum c a x = omega arith

-- a number for which another stands as far as c, and each with x more
pub cut_on : (c n v x : ℕ) → min n c ≡ min v c → min (n + x) c ≡ min (v + x) c
cut_on c n v x e = omega (arith, e)

module _ (w : ℕ → ℕ) (members : ℕ) where
  pub record Seeking (left most : ℕ) : Type 0 where
    pub small : left < 2 ^ 61
    pub marked : max most (most_of left w) ≡ most_of members w

  pub below : {left most t r : ℕ} → Seeking left most → Taken has_bit (λ (m : ℕ). m) left t r → t < 61
  below {left} {t = t} h s = member_below 61 left t h.small s.least.here

  pub seeking_start : members < 2 ^ 61 → Seeking members 0
  seeking_start h = record { small = h; marked = omega arith }

  module _ (left most : ℕ) (h : Seeking left most) where
    pub seeking_on : (t r most' : ℕ) → Taken has_bit (λ (m : ℕ). m) left t r → most' ≡ max (w t) most → Seeking r most'
    seeking_on t r most' s m =
        let fewer = s.fewer in
        record { small = omega (arith, h.small); marked = omega (arith, h.marked, m, most_turn 61 left t r h.small s w) }

    pub seeking_end : ((i : ℕ) → has_bit left i ≡ false) → most ≡ most_of members w
    seeking_end none = omega (arith, h.marked, walk_end 0 max w 61 left none)

module _ (v w : ℕ → ℕ) (members : ℕ) where
  pub record Gathering (left count most : ℕ) : Type 0 where
    pub seeking : Seeking w members left most
    -- the members that were taken are below each that waits, and none had more than 2 ^ 64
    pub room : (t : ℕ) → has_bit left t ≡ true → count ≤ 2 ^ 64 * t
    pub counted : min (count + sum_if (has_bit left) v 61) (2 ^ 63) ≡ count_of members v

  pub gathering_start : members < 2 ^ 61 → Gathering members 0 0
  gathering_start h = record { seeking = seeking_start w members h; room = λ t e. omega arith; counted = omega arith }

  module _ (left count most : ℕ) (h : Gathering left count most) where
    pub gathering_on : (t r count' most' : ℕ) → Taken has_bit (λ (m : ℕ). m) left t r → count' ≤ count + 2 ^ 64 → min count' (2 ^ 63) ≡ min (count + v t) (2 ^ 63)
        → most' ≡ max (w t) most → Gathering r count' most'
    gathering_on t r count' most' s l c m = record {
      seeking = seeking_on w members left most h.seeking t r most' s m;
      room = λ i e. let past = later i e in omega (arith, h.room t s.least.here, past, l);
      counted = cut_on (2 ^ 63) count' (count + v t) (sum_if (has_bit r) v 61) c ∙ omega (arith, h.counted, sum_turn 61 left t r h.seeking.small s v);
    }
      where
        later : (i : ℕ) → has_bit r i ≡ true → t < i
        later i e =
            ⊎_elim (λ p. p)
            (λ p. absurd (by_equal t i (λ z. false≢true (sym (less_here (has_bit left) (has_bit r) t s.others) ∙ ap (has_bit r) z ∙ e))
            (λ d. false≢true (sym (s.least.none i (omega (arith, p, d))) ∙ sym (less_other (has_bit left) (has_bit r) t s.others i d) ∙ e))))
            (le_or_lt (suc t) i)

    pub gathering_end : ((i : ℕ) → has_bit left i ≡ false) → (min count (2 ^ 63) ≡ count_of members v) × (most ≡ most_of members w)
    gathering_end none = (omega (arith, h.counted, walk_end 0 ◌+◌ v 61 left none), seeking_end w members left most h.seeking none)

  -- the first member taken by itself
  pub gathering_first : (t r count : ℕ) → members < 2 ^ 61 → Taken has_bit (λ (m : ℕ). m) members t r → count ≤ 2 ^ 64 → min count (2 ^ 63) ≡ min (v t) (2 ^ 63) → Gathering r count (w t)
  gathering_first t r count h s l c = gathering_on members 0 0 (gathering_start h) t r count (w t) s (omega (arith, l)) (omega (arith, c)) (omega arith)
