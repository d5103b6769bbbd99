-- Sets of letters stay such, whatever entry becomes one or is copied on. Assumes nothing.
use mathlib.Core.Path.{◌≡◌, sym, subst}
use mathlib.Core.Logic.{⊎_elim}
use mathlib.Core.Bool.{true}
use Prim.Native.Nat.{ℕ, zero, suc, ◌+◌, ◌-◌, ◌<◌}
use native.Mathlib.Omega.{arith}
use Rattle.basics.proofs.Tests.{le_or_lt, by_equal}
use Rattle.alphabet.specs.Alphabet.{is_letter}
use Rattle.letters.specs.LetterSet.{has_letter, set_at}
use Rattle.letters.specs.declared.LetterSet.{LetterSet}
use Rattle.set_table.specs.declared.Tables.{Tables}
use Rattle.set_table.specs.Tables.{entry_at, Writes, Repeats, LettersStay}

-- a set holds letters only
abbrev pub Lettered : LetterSet → Type 0
Lettered s = (c : ℕ) → has_letter s c ≡ true → is_letter c ≡ true

same_lettered : (t t' : Tables) (i j : ℕ) → entry_at t i ≡ entry_at t' j → Lettered (set_at t'.sets j) → Lettered (set_at t.sets i)
same_lettered t t' i j e l = subst (λ (x : LetterSet × ℕ). Lettered x.0) (sym e) l

pub write_lettered : (i : ℕ) (s : LetterSet) (credit : ℕ) (before after : Tables) → Writes i s credit before after → Lettered s → LettersStay before after
write_lettered i s credit before after w l all j =
    by_equal i j (λ e. subst (λ (k : ℕ). Lettered (set_at after.sets k)) e (subst (λ (x : LetterSet × ℕ). Lettered x.0) (sym w.here) l)) (λ d. same_lettered after before j j (w.others j d) (all j))

module _ (from to by : ℕ) (before after : Tables) (on : 0 < by) (w : Repeats from to by before after) where
  pub repeat_lettered : LettersStay before after
  repeat_lettered all i = go (i + 1) i (omega arith)
    where
      go : (n i : ℕ) → i < n → Lettered (set_at after.sets i)
      go zero i l = absurd (omega arith)
      go (suc n) i l =
          ⊎_elim
          (λ h.
          ⊎_elim (λ k. same_lettered after before i i (w.above i k) (all i))
          (λ k.
          let j = i - by in
          let e : j + by ≡ i = omega arith in
          subst (λ (x : ℕ). Lettered (set_at after.sets x)) e (same_lettered after after (j + by) j (w.copied j (omega arith) (omega arith)) (go n j (omega arith))))
          (le_or_lt (to + by) i))
          (λ h. same_lettered after before i i (w.below i h) (all i)) (le_or_lt (from + by) i)
