-- What a built pattern is turned into: for each position the states before it, for each letter the positions that hold it.
use Rattle.std.specs.Prelude.{◌≡◌, Bool, ◌&&◌, ◌||◌, List, ℕ, eqb, ltb, length, get_or}
use Rattle.bits.specs.Bits.{has_bit}

-- entry x of the table is the set of those j below n whose row has x
abbrev pub Columns : (ℕ → ℕ → Bool) → ℕ → List ℕ → Type 0
Columns row n table = (x j : ℕ) → has_bit (get_or table x 0) j ≡ (ltb j n && row j x)

-- j is put into each entry x that passes p, and nothing else is changed
pub record Entered (p : ℕ → Bool) (j : ℕ) (table table' : List ℕ) : Type 0 where
  pub size : length table' ≡ length table
  pub has : (x i : ℕ) → has_bit (get_or table' x 0) i ≡ (has_bit (get_or table x 0) i || (p x && eqb j i))
