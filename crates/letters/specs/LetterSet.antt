-- A set of letters as the program holds it: what the contracts cite.
use Rattle.std.specs.Prelude.{◌≡◌, Bool, true, ◌&&◌, ◌||◌, List, ℕ, ◌+◌, ◌-◌, ◌^◌, eqb, ltb, leb, get_or, if◌then◌else◌}
use Rattle.basics.specs.Folds.{LeastOf}
use Rattle.bits.specs.Bits.{has_bit}
use Rattle.alphabet.specs.Alphabet.{is_letter}
use Rattle.letters.specs.declared.LetterSet.{LetterSet}

-- has the code c a slot in a set, and which: 32 to 127 have 0 to 95, and 160 to 255 have 96 to 191
unfoldable pub has_slot : ℕ → Bool
has_slot c = (leb 32 c && leb c 127) || (leb 160 c && leb c 255)

unfoldable pub slot_of : ℕ → ℕ
slot_of c = if ltb c 128 then c - 32 else c - 64

-- the code of slot i
unfoldable pub code_at : ℕ → ℕ
code_at i = if ltb i 96 then 32 + i else 64 + i

-- is the code of slot i in the set s
unfoldable pub in_slot : LetterSet → ℕ → Bool
in_slot s i = if ltb i 64 then has_bit s.low i else if ltb i 128 then has_bit s.middle (i - 64) else has_bit s.high (i - 128)

-- is the code c in the set s
unfoldable pub has_letter : LetterSet → ℕ → Bool
has_letter s c = has_slot c && in_slot s (slot_of c)

-- a code is in s
pub record Some (s : LetterSet) : Type 0 where
  pub code : ℕ
  pub here : has_letter s code ≡ true

-- c is the lowest code in s
abbrev pub LeastLetter : LetterSet → ℕ → Type 0
LeastLetter s c = LeastOf (has_letter s) c

-- are all 64 slots of the codes from 192 on in s
abbrev pub is_wide : LetterSet → Bool
is_wide s = eqb s.high (2 ^ 64 - 1)

-- a number that falls with each letter taken out
abbrev pub weight : LetterSet → ℕ
weight s = s.low + s.middle + s.high

-- the set of entry i of an array of sets, empty past the last
abbrev pub set_at : List LetterSet → ℕ → LetterSet
set_at sets i = get_or sets i record { low = 0; middle = 0; high = 0 }

-- the sets of an array hold letters only
abbrev pub OnlyLetters : List LetterSet → Type 0
OnlyLetters sets = (i c : ℕ) → has_letter (set_at sets i) c ≡ true → is_letter c ≡ true

-- each set of `letters` is that of `sets` with its letters alone
abbrev pub LettersOf : List LetterSet → List LetterSet → Type 0
LettersOf sets letters = (i c : ℕ) → has_letter (set_at letters i) c ≡ (is_letter c && has_letter (set_at sets i) c)
