-- The letters. All that depends on which codes are letters stands here.
use Rattle.std.specs.Prelude.{Bool, true, false, ◌&&◌, ◌||◌, List, [], ◌∷◌, ℕ, zero, suc, leb, if◌then◌else◌}

-- [Letters] the 191 codes from 32 to 126 and from 160 to 255
abbrev pub is_letter : ℕ → Bool
is_letter c = (leb 32 c && leb c 126) || (leb 160 c && leb c 255)

-- [Answers] a text is a list of letters, however long, and may be empty
abbrev pub all_letters : List ℕ → Bool
all_letters [] = true
all_letters (c ∷ s) = is_letter c && all_letters s

-- does one of the n codes from c on pass a test, and the lowest that does, 0 for none
unfoldable pub some_from : ℕ → ℕ → (ℕ → Bool) → Bool
some_from zero c f = false
some_from (suc n) c f = f c || some_from n (suc c) f

unfoldable pub lowest_from : ℕ → ℕ → (ℕ → Bool) → ℕ
lowest_from zero c f = 0
lowest_from (suc n) c f = if f c then c else lowest_from n (suc c) f

-- does a letter pass the test: a set, given by its test, has a letter
abbrev pub some_letter : (ℕ → Bool) → Bool
some_letter f = some_from 256 0 (λ c. is_letter c && f c)

-- and its lowest one
abbrev pub lowest_letter : (ℕ → Bool) → ℕ
lowest_letter f = lowest_from 256 0 (λ c. is_letter c && f c)
