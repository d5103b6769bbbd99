-- Where two links or more lead: the walk that keeps the members of a set that pass a test. Assumes nothing.
use mathlib.Core.Path.{◌≡◌, sym, ap, ◌∙◌, subst}
use mathlib.Core.Bool.{Bool, true, false, not, ◌&&◌, ◌||◌, or-false, or_assoc}
use Prim.Native.Nat.{ℕ, ◌^◌, ◌<◌}
use native.Mathlib.Omega.{arith}
use lib.Dec.{eqb}
use Rattle.basics.specs.Folds.{any_if}
use Rattle.basics.proofs.Tests.{and_parts}
use Rattle.bits.specs.Bits.{has_bit, Taken}
use Rattle.bits.proofs.Laws.{has_none}
use Rattle.bits.proofs.Walk.{any_turn, walk_end, kept}

-- ---- the walk: those kept, and those that are left and pass, are the members that pass

pub record Keeping (set left out : ℕ) (f : ℕ → Bool) : Type 0 where
  pub fits : left < 2 ^ 64
  pub within : (j : ℕ) → has_bit left j ≡ true → has_bit set j ≡ true
  pub bits : (j : ℕ) → (has_bit out j || any_if (has_bit left) (λ i. f i && eqb i j) 64) ≡ (has_bit set j && f j)

pub keep_start : {set left : ℕ} (f : ℕ → Bool) → left ≡ set → set < 2 ^ 64 → Keeping set left 0 f
keep_start {set} {left} f e l =
    subst (λ (m : ℕ). Keeping set m 0 f) (sym e)
    (record { fits = l; within = λ j h. h; bits = λ j. ap (λ (x : Bool). x || any_if (has_bit set) (λ i. f i && eqb i j) 64) (has_none j) ∙ kept 64 set l f j })

pub keep_turn : {set left out t rest out' : ℕ} {f : ℕ → Bool} → Keeping set left out f → Taken has_bit (λ (m : ℕ). m) left t rest
    → ((j : ℕ) → has_bit out' j ≡ (has_bit out j || (f t && eqb t j))) → Keeping set rest out' f
keep_turn {left = left} {out} {t} {rest} {f = f} k s o = record {
  fits = omega (arith, k.fits, s.fewer);
  within = λ j h. k.within j (and_parts (has_bit left j) (not (eqb t j)) (sym (s.others j) ∙ h)).0;
  bits = λ j.
      let more = any_if (has_bit rest) (λ i. f i && eqb i j) 64 in
      ap (λ (x : Bool). x || more) (o j) ∙ or_assoc (has_bit out j) (f t && eqb t j) more
      ∙ ap (λ (x : Bool). has_bit out j || x) (sym (any_turn 64 left t rest k.fits s (λ i. f i && eqb i j))) ∙ k.bits j;
}

pub keep_end : {set left out : ℕ} {f : ℕ → Bool} → Keeping set left out f → ((j : ℕ) → has_bit left j ≡ false) → (j : ℕ) → has_bit out j ≡ (has_bit set j && f j)
keep_end {left = left} {out} {f} k z j =
    sym (ap (λ (x : Bool). has_bit out j || x) (walk_end false ◌||◌ (λ i. f i && eqb i j) 64 left z) ∙ or-false (has_bit out j)) ∙ k.bits j
