-- What the program `vet` writes, a line for each pattern of its input, and what the functions that make it promise.
-- A name in square brackets is that of the rule that a definition renders.
use Rattle.std.specs.Prelude.{◌≡◌, List, [], ◌∷◌, ◌++◌, ℕ, suc, ◌+◌, ◌-◌, ◌≤◌, ◌<◌, eqb, ltb, length, take, drop, if◌then◌else◌, Option, MatchOption}
use Rattle.basics.specs.Bytes.{codes}
use Rattle.pattern.specs.Grammar.{pattern_part}
use Rattle.pattern.specs.Positions.{positions, pattern_graph}
use Rattle.pattern.specs.Refusals.{pattern_refusal}
use Rattle.verdict.specs.Verdict.{verdict}
use Rattle.fields.specs.Fields.{newline, result_line, Puts}
use Rattle.lines.specs.declared.Run.{Run}

-- ---- a line

-- [Output lines] the line for the pattern s, by what its vetting gives
unfoldable pub line_of : ℕ → List ℕ → List ℕ
line_of n s = result_line n (pattern_refusal s) (verdict (pattern_graph s)) (positions (pattern_part s))

-- ---- the input's patterns

-- [Input lines] a last pattern that no byte 10 ends counts if it is not empty
abbrev pub last_pattern : List ℕ → List (List ℕ)
last_pattern [] = []
last_pattern (b ∷ p) = (b ∷ p) ∷ []

-- [Input lines] byte 10 ends a pattern; p are the bytes of the pattern so far
unfoldable pub patterns_from : List ℕ → List ℕ → List (List ℕ)
patterns_from p [] = last_pattern p
patterns_from p (b ∷ s) = if eqb b 10 then p ∷ patterns_from [] s else patterns_from (p ++ (b ∷ [])) s

abbrev pub patterns_of : List ℕ → List (List ℕ)
patterns_of s = patterns_from [] s

-- ---- the output

-- [Output lines] a line for each pattern, in their order, numbered from n
unfoldable pub lines_from : ℕ → List (List ℕ) → List ℕ
lines_from n [] = []
lines_from n (s ∷ ss) = line_of n s ++ lines_from (suc n) ss

-- [Too long] the line for an input of more than 65,536 bytes
abbrev pub too_long : List ℕ
too_long = codes "input too long" ++ newline

-- [Too long] such an input has that line only; any other has the lines of all its patterns, numbered from 1
abbrev pub output_of : List ℕ → List ℕ
output_of s = if ltb 65536 (length s) then too_long else lines_from 1 (patterns_of s)

-- ---- what the functions promise

-- the input's first pattern from byte a on ends before byte r: the byte 10 there, or the input's end
pub record EndsAt (s : List ℕ) (a r : ℕ) : Type 0 where
  pub after : a ≤ r
  pub inside : r ≤ length s
  pub cuts : patterns_of (drop a s) ≡ take (r - a) (drop a s) ∷ patterns_of (drop (r + 1) s)

-- a run before its first line
abbrev pub start : Run
start = record { from = 0; number = 1 }

-- a run has a line to put: it is not over, its number has at most five digits, and a line of that number fits into so many bytes
abbrev pub HasLine : List ℕ → Run → ℕ → Type 0
HasLine s run room = (run.from < length s) × (run.number < 100000) × (18 ≤ room)

-- the line of the input's first pattern from the run's byte on is put at the slice's start, and len is its length; the run goes on
-- after that pattern and the byte 10 that ends it, with the next number
pub record PatternLine (s : List ℕ) (run : Run) (old new : List ℕ) (len : ℕ) (r : Run) : Type 0 where
  pub pattern : List ℕ
  pub cuts : patterns_of (drop run.from s) ≡ pattern ∷ patterns_of (drop r.from s)
  pub puts : Puts (line_of run.number pattern) old 0 new len
  pub short : len ≤ 18
  pub after : r.from ≡ run.from + length pattern + 1
  pub inside : r.from ≤ length s + 1
  pub counts : r.number ≡ run.number + 1

-- the line for an input that is too long is put at the slice's start, and the run is over
pub record OnlyLine (s : List ℕ) (run : Run) (old new : List ℕ) (len : ℕ) (r : Run) : Type 0 where
  pub puts : Puts too_long old 0 new len
  pub over : r.from ≡ length s
  pub counts : r.number ≡ run.number + 1

-- there is a line, and it is put
pub record OneLine (s : List ℕ) (run : Run) (old new : List ℕ) (r : Run) (len : ℕ) : Type 0 where
  pub has : HasLine s run (length old)
  pub line : length s ≤ 65536 → PatternLine s run old new len r
  pub only : 65536 < length s → OnlyLine s run old new len r

-- there is none: nothing is put, and the run stays where it is
pub record NoLine (s : List ℕ) (run : Run) (old new : List ℕ) (r : Run) : Type 0 where
  pub none : HasLine s run (length old) → ⊥
  pub stays : r ≡ run
  pub kept : new ≡ old

-- for all input: the next line, or nothing where there is none to put
abbrev pub NextLine : List ℕ → Run → List ℕ → List ℕ → Run → Option ℕ → Type 0
NextLine s run old new r result = MatchOption result (NoLine s run old new r) (OneLine s run old new r)
