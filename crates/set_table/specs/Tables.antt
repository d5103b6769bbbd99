-- The tables of letters and of raised credits: what the contracts cite.
use Rattle.std.specs.Prelude.{◌≡◌, ℕ, ◌+◌, ◌≤◌, ◌<◌, get_or}
use Rattle.letters.specs.LetterSet.{set_at, OnlyLetters}
use Rattle.letters.specs.declared.LetterSet.{LetterSet}
use Rattle.set_table.specs.declared.Tables.{Tables}

-- what both have for position i; past the last no letter, and the credit 0
abbrev pub entry_at : Tables → ℕ → LetterSet × ℕ
entry_at t i = (set_at t.sets i, get_or t.credits i 9)

-- entry i becomes the set s and the credit
pub record Writes (i : ℕ) (s : LetterSet) (credit : ℕ) (before after : Tables) : Type 0 where
  pub here : entry_at after i ≡ (s, credit)
  pub others : (j : ℕ) → (i ≡ j → ⊥) → entry_at after j ≡ entry_at before j

-- each entry from `from` on below `to` has its copy `by` entries further on; no other entry changes
pub record Repeats (from to by : ℕ) (before after : Tables) : Type 0 where
  pub copied : (i : ℕ) → from ≤ i → i < to → entry_at after (i + by) ≡ entry_at after i
  pub below : (i : ℕ) → i < from + by → entry_at after i ≡ entry_at before i
  pub above : (i : ℕ) → to + by ≤ i → entry_at after i ≡ entry_at before i

-- where the sets held letters only, they still do
abbrev pub LettersStay : Tables → Tables → Type 0
LettersStay before after = OnlyLetters before.sets → OnlyLetters after.sets
