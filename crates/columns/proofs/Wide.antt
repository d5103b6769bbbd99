-- Positions with a wide set are entered for the letters that they lack, and flipped in the end. Assumes nothing.
use mathlib.Core.Path.{◌≡◌, refl, sym, ap, ◌∙◌}
use mathlib.Core.Bool.{Bool, true, false, not, ◌&&◌, false≢true}
use mathlib.Core.List.{List}
use mathlib.Core.Logic.{⊎_elim}
use Prim.Native.Nat.{ℕ, ◌≤◌}
use lib.Dec.{ltb}
use borrow.Author.Tests.{lt-ltb}
use Rattle.std.specs.Prelude.{if◌then◌else◌}
use Rattle.basics.proofs.Tests.{le_or_lt}
use Rattle.bits.specs.Bits.{has_bit}
use Rattle.bits.proofs.Laws.{has_none}
use Rattle.alphabet.specs.Alphabet.{is_letter}
use Rattle.alphabet.specs.Flipped.{flipped, Flipped}
use Rattle.letters.specs.LetterSet.{has_letter, set_at, OnlyLetters}
use Rattle.letters.specs.declared.LetterSet.{LetterSet}
use Rattle.columns.specs.Tables.{Columns}

-- is a code entered for a position: where the set is wide, a letter that it lacks
abbrev entered : Bool → Bool → Bool → Bool
entered wide letter held = if wide then letter && not held else held

abbrev pub is_entered : List LetterSet → ℕ → ℕ → ℕ → Bool
is_entered sets wide j c = entered (has_bit wide j) (is_letter c) (has_letter (set_at sets j) c)

-- no position from n on is wide
abbrev pub WideBelow : ℕ → ℕ → Type 0
WideBelow n wide = (j : ℕ) → n ≤ j → has_bit wide j ≡ false

-- ---- the end

flipped_back : (b letter wide held : Bool) → (wide ≡ true → b ≡ true) → (held ≡ true → letter ≡ true) → flipped (letter && wide) (b && entered wide letter held) ≡ (b && held)
flipped_back b true false held p q = refl
flipped_back b false false held p q = refl
flipped_back true true true true p q = refl
flipped_back true true true false p q = refl
flipped_back true false true true p q = absurd (false≢true (q refl))
flipped_back true false true false p q = refl
flipped_back false letter true held p q = absurd (false≢true (p refl))

module _ (sets : List LetterSet) (n wide : ℕ) (table : List ℕ) (h : Columns (is_entered sets wide) n table) where
  pub all_flipped : OnlyLetters sets → WideBelow n wide → (table' : List ℕ) → Flipped is_letter wide table table' → Columns (λ i c. has_letter (set_at sets i) c) n table'
  all_flipped lettered below table' w c j =
      w.has c j ∙ ap (flipped (is_letter c && has_bit wide j)) (h c j)
      ∙ flipped_back (ltb j n) (is_letter c) (has_bit wide j) (has_letter (set_at sets j) c)
      (λ e. ⊎_elim (λ l. absurd (false≢true (sym (below j l) ∙ e))) (λ l. lt-ltb j n l) (le_or_lt n j)) (lettered j c)

  pub none_flipped : wide ≡ 0 → Columns (λ i c. has_letter (set_at sets i) c) n table
  none_flipped z c j =
      h c j ∙ ap (λ (b : Bool). ltb j n && entered b (is_letter c) (has_letter (set_at sets j) c)) (ap (λ (m : ℕ). has_bit m j) z ∙ has_none j)
