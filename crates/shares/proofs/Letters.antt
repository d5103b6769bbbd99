-- What two sets share, when each is cut to its letters. Assumes nothing.
use mathlib.Core.Path.{◌≡◌, refl, ap₂, ◌∙◌}
use mathlib.Core.Bool.{Bool, true, false, ◌&&◌}
use mathlib.Core.List.{List}
use Prim.Native.Nat.{ℕ}
use Rattle.alphabet.specs.Alphabet.{is_letter}
use Rattle.letters.specs.LetterSet.{LettersOf}
use Rattle.letters.specs.declared.LetterSet.{LetterSet}
use Rattle.shares.specs.Tables.{held}

cut_twice : (i x y : Bool) → (i && ((i && x) && (i && y))) ≡ (i && (x && y))
cut_twice true x y = refl
cut_twice false x y = refl

-- the same letters are held by both
pub held_alike : (sets letters : List LetterSet) → LettersOf sets letters → (a b c : ℕ) → (is_letter c && held letters a b c) ≡ (is_letter c && held sets a b c)
held_alike sets letters cut a b c = ap₂ (λ (x y : Bool). is_letter c && (x && y)) (cut a c) (cut b c) ∙ cut_twice (is_letter c) _ _
