-- What marking an answer promises, for all input.
use Rattle.std.specs.Prelude.{◌≡◌, not, List, ℕ, ◌≤◌, ◌^◌, min, eqb, ltb, ℤ, pos, nat_abs, length, if◌then◌else◌, Result, IfOk}
use Rattle.alphabet.specs.Alphabet.{all_letters}
use Rattle.graph.specs.Readings.{readings, mark}
use Rattle.graph.specs.Taken.{letters_taken}
use Rattle.pattern.specs.Refusals.{pattern_refusal, refusal_of}
use Rattle.pattern.specs.declared.Refusal.{Refusal}
use Rattle.pattern.specs.Positions.{pattern_graph}
use Rattle.marks.specs.declared.Marked.{Marked}

-- [Refusals] those of the pattern, then 9, more than 4,096 bytes of answer, then 10, a byte of the answer that is no letter; 0 where
-- none applies
abbrev pub mark_refusal : List ℕ → List ℕ → ℕ
mark_refusal s a =
    if not (eqb (pattern_refusal s) 0) then pattern_refusal s
    else if ltb 4096 (length a) then 9
    else if not (all_letters a) then 10
    else 0

-- [Marking] the smaller of the number of readings and 2^63, the mark, and how many letters are taken; all 0 at a refusal
abbrev pub count_shown : List ℕ → List ℕ → ℕ
count_shown s a = if eqb (mark_refusal s a) 0 then min (readings (pattern_graph s) a) (2 ^ 63) else 0

abbrev pub mark_shown : List ℕ → List ℕ → ℤ
mark_shown s a = if eqb (mark_refusal s a) 0 then mark (pattern_graph s) a else pos 0

abbrev pub taken_shown : List ℕ → List ℕ → ℕ
taken_shown s a = if eqb (mark_refusal s a) 0 then letters_taken (pattern_graph s) a else 0

-- what is answered where nothing is refused
pub record RightMark (s a : List ℕ) (m : Marked) : Type 0 where
  pub count : m.count ≡ count_shown s a
  pub mark : m.mark ≡ mark_shown s a
  -- from -36,864 to 36,864, 9 for each of 4,096 letters
  pub small : nat_abs m.mark ≤ 36864
  pub taken : m.taken ≡ taken_shown s a
  -- no more than an answer may have
  pub few : m.taken ≤ 4096

pub record MarkSays (s a : List ℕ) (r : Result Marked Refusal) : Type 0 where
  pub refusal : refusal_of r ≡ mark_refusal s a
  pub marked : IfOk r (RightMark s a)
