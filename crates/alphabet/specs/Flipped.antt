-- Tables by codes, some members of which are flipped: what the contracts cite.
use Rattle.std.specs.Prelude.{◌≡◌, Bool, not, ◌&&◌, List, ℕ, length, get_or, if◌then◌else◌}
use Rattle.bits.specs.Bits.{has_bit}

abbrev pub flipped : Bool → Bool → Bool
flipped t b = if t then not b else b

-- in the entries of the codes that pass p, the members of a mask are flipped: what was in is out, and what was out is in
pub record Flipped (p : ℕ → Bool) (mask : ℕ) (table table' : List ℕ) : Type 0 where
  pub size : length table' ≡ length table
  pub has : (c j : ℕ) → has_bit (get_or table' c 0) j ≡ flipped (p c && has_bit mask j) (has_bit (get_or table c 0) j)
