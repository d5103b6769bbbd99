-- The fields of a line of the program `vet`, and what the functions that put them into a slice promise.
-- A name in square brackets is that of the rule that a definition renders.
use Rattle.std.specs.Prelude.{◌≡◌, List, [], ◌∷◌, ◌++◌, ℕ, zero, suc, ◌+◌, ◌/◌, ◌%◌, eqb, ltb, length, if◌then◌else◌, Result, Ok, Err}
use Rattle.std.proofs.lemmas.List.Edits.{sets}
use Rattle.basics.specs.Bytes.{codes}
use Rattle.pattern.specs.Refusals as Refusals
use Rattle.pattern.specs.declared.Refusal.{Refusal}
use Rattle.vetting.specs.Answers.{number_of}
use Rattle.vetting.specs.declared.Vetted.{Vetted}

-- ---- the fields of a line

-- the digits of n, the most significant first and no more than are needed; k is a number above n
unfoldable pub digits_below : ℕ → ℕ → List ℕ
digits_below zero n = []
digits_below (suc k) n = if ltb n 10 then (48 + n) ∷ [] else digits_below k (n / 10) ++ ((48 + n % 10) ∷ [])

unfoldable pub decimal : ℕ → List ℕ
decimal n = digits_below (suc n) n

-- [Verdicts] the word of a verdict: 0 is single, 1 steady, 2 runaway
abbrev pub word : ℕ → List ℕ
word zero = codes "single"
word (suc zero) = codes "steady"
word (suc (suc v)) = codes "runaway"

abbrev pub newline : List ℕ
newline = 10 ∷ []

-- ---- a line

-- [Output lines] the line number n, a word w and a number k, with a space between them and byte 10 after them
abbrev pub fields : ℕ → List ℕ → ℕ → List ℕ
fields n w k = decimal n ++ (codes " " ++ (w ++ (codes " " ++ (decimal k ++ newline))))

-- [Output lines] the line of what vetting gave: the verdict's word and the number p of positions, or `refused` and the refusal's number
abbrev pub result_line : ℕ → ℕ → ℕ → ℕ → List ℕ
result_line n refusal v p = if eqb refusal 0 then fields n (word v) p else fields n (codes "refused") refusal

-- that line, of a result
abbrev pub outcome_line : ℕ → Result Vetted Refusal → List ℕ
outcome_line n (Ok v) = result_line n 0 (number_of v.verdict) v.positions
outcome_line n (Err e) = fields n (codes "refused") (Refusals.number_of e)

-- ---- what the functions promise

-- the text stands in the slice from byte a on, in place of what was there; r is the place after it
pub record Puts (text old : List ℕ) (a : ℕ) (new : List ℕ) (r : ℕ) : Type 0 where
  pub bytes : new ≡ sets old a text
  pub end : r ≡ a + length text
