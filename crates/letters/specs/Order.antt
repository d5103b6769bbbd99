-- [Letters shown] The order of the letters: `a` to `z`, `A` to `Z`, `0` to `9`, then the others by code.
use Rattle.std.specs.Prelude.{Bool, ◌&&◌, List, [], ◌∷◌, ℕ, ◌+◌, leb, if◌then◌else◌}
use Prim.Native.Char.{code}
use Rattle.alphabet.specs.Alphabet.{some_letter, lowest_letter}

-- the codes from `from` to `to`, both ends included
pub record Range : Type 0 where
  pub from : ℕ
  pub to : ℕ

abbrev pub range : ℕ → ℕ → Range
range a b = record { from = a; to = b }

abbrev pub in_range : Range → ℕ → Bool
in_range r c = leb r.from c && leb c r.to

abbrev pub small : Range
small = range (code "a") (code "z")

abbrev pub capital : Range
capital = range (code "A") (code "Z")

abbrev pub digit : Range
digit = range (code "0") (code "9")

-- what comes first, range by range; the others follow
abbrev pub order : List Range
order = small ∷ (capital ∷ (digit ∷ []))

-- the place of a code in the order: by range, and in each range by code; what has the lower place comes first
abbrev pub place_by : List Range → ℕ → ℕ
place_by [] c = c
place_by (r ∷ rs) c = if in_range r c then c else 256 + place_by rs c

abbrev pub place : ℕ → ℕ
place c = place_by order c

-- the letters of a set, given by its test, that are in a range
abbrev pub among : Range → (ℕ → Bool) → ℕ → Bool
among r f c = f c && in_range r c

-- of a set: the lowest letter in the first of the ranges that has one of its letters, or of all where none has
abbrev pub first_by : List Range → (ℕ → Bool) → ℕ
first_by [] f = lowest_letter f
first_by (r ∷ rs) f = if some_letter (among r f) then lowest_letter (among r f) else first_by rs f

-- [Letters shown] of a set: its first letter in the order
unfoldable pub first_letter : (ℕ → Bool) → ℕ
first_letter f = first_by order f
