-- Stretches of tables that are copied on: what the contracts cite.
use Rattle.std.specs.Prelude.{◌≡◌, ◌&&◌, List, ℕ, ◌+◌, ◌-◌, ◌≤◌, ◌<◌, leb, ltb, length, get_or}
use Rattle.bits.specs.Bits.{has_bit}

-- an entry and its copy
abbrev pub Same : {T : Type 0} → T → T → Type 0
Same x y = y ≡ x

-- a set and the same with its members moved on
abbrev pub Moved : ℕ → ℕ → ℕ → Type 0
Moved by x y = (j : ℕ) → has_bit y j ≡ (leb by j && (ltb j 64 && has_bit x (j - by)))

-- each entry from `from` on below `to` has its copy `by` entries further on; no other entry changes. What is read past the end
-- does not matter
pub record Repeats {T : Type 0} (Copy : T → T → Type 0) (from to by : ℕ) (before after : List T) : Type 0 where
  pub copied : (none : T) (i : ℕ) → from ≤ i → i < to → Copy (get_or after i none) (get_or after (i + by) none)
  pub below : (none : T) (i : ℕ) → i < from + by → get_or after i none ≡ get_or before i none
  pub above : (none : T) (i : ℕ) → to + by ≤ i → get_or after i none ≡ get_or before i none
  pub size : length after ≡ length before
