-- [Refusals of a pattern] in checking order, and the numbers of all refusals.
use Rattle.std.specs.Prelude.{Bool, false, ◌||◌, not, List, [], ◌∷◌, ℕ, ltb, length, if◌then◌else◌, Result, Ok, Err}
use Rattle.alphabet.specs.Alphabet.{all_letters, some_letter}
use Rattle.pattern.specs.Parts.{Item, Atom, holds, is_misbounded, Part, letter, either, joined, again}
use Rattle.pattern.specs.Grammar.{is_pattern, pattern_part}
use Rattle.pattern.specs.Positions.{atoms, positions}
use Rattle.pattern.specs.declared.Refusal.{Refusal}
use Rattle.pattern.specs.declared.Refusal.TheVariants.{ShortEvidence, ShortScratch, LongPattern, PatternNotLetters, BrokenGrammar, ReversedRange, EmptyClass, ManyPositions, LongAnswer, AnswerNotLetters, WrongBounds}

-- [Refusals of a pattern] 6: a range from a higher code to a lower one
abbrev pub some_reversed : List Item → Bool
some_reversed [] = false
some_reversed (i ∷ is) = ltb i.hi i.lo || some_reversed is

abbrev pub any_reversed : List Atom → Bool
any_reversed [] = false
any_reversed (a ∷ al) = some_reversed a.items || any_reversed al

-- [Refusals of a pattern] 7: a class without a letter
abbrev pub any_empty : List Atom → Bool
any_empty [] = false
any_empty (a ∷ al) = not (some_letter (holds a)) || any_empty al

-- [Refusals of a pattern] 11: an interval whose bounds it names
abbrev pub any_misbounded : Part → Bool
any_misbounded (letter a) = false
any_misbounded (either p q) = any_misbounded p || any_misbounded q
any_misbounded (joined p q) = any_misbounded p || any_misbounded q
any_misbounded (again k p) = is_misbounded k || any_misbounded p

-- [Refusals of a pattern] the first of 3 to 7, 11 and 8 that applies; 0 where none does, and the pattern is accepted
abbrev pub pattern_refusal : List ℕ → ℕ
pattern_refusal s =
    if ltb 512 (length s) then 3
    else if not (all_letters s) then 4
    else if not (is_pattern s) then 5
    else if any_reversed (atoms (pattern_part s)) then 6
    else if any_empty (atoms (pattern_part s)) then 7
    else if any_misbounded (pattern_part s) then 11
    else if ltb 60 (positions (pattern_part s)) then 8
    else 0

-- [Refusals] the number of a refusal
abbrev pub number_of : Refusal → ℕ
number_of ShortEvidence = 1
number_of ShortScratch = 2
number_of LongPattern = 3
number_of PatternNotLetters = 4
number_of BrokenGrammar = 5
number_of ReversedRange = 6
number_of EmptyClass = 7
number_of ManyPositions = 8
number_of LongAnswer = 9
number_of AnswerNotLetters = 10
number_of WrongBounds = 11

-- the refusal that a result stands for, by its number: 0 where there is none
abbrev pub refusal_of : {A : Type 0} → Result A Refusal → ℕ
refusal_of (Ok a) = 0
refusal_of (Err e) = number_of e
