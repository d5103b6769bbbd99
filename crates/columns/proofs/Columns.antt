-- Tables turned round: a number is put into each entry of a set, member by member, and that for each row in turn. Assumes nothing.
use mathlib.Core.Path.{◌≡◌, sym, ap, ◌∙◌}
use mathlib.Core.Bool.{Bool, true, ◌&&◌, ◌||◌}
use mathlib.Core.List.{List}
use Prim.Native.Nat.{ℕ, zero-le}
use lib.Dec.{eqb}
use lib.ListN.{length, get_or, replicate}
use borrow.Author.Tests.{le-ltb}
use Rattle.basics.proofs.Lists.{zeros}
use Rattle.bits.specs.Bits.{has_bit}
use Rattle.bits.proofs.Laws.{has_none}
use Rattle.columns.specs.Tables.{Columns}

-- j is still to be put into the entries that pass q
pub record Entering (p q : ℕ → Bool) (j : ℕ) (table table' : List ℕ) : Type 0 where
  pub size : length table' ≡ length table
  pub within : (x : ℕ) → q x ≡ true → p x ≡ true
  pub has : (x i : ℕ) → (has_bit (get_or table' x 0) i || (q x && eqb j i)) ≡ (has_bit (get_or table x 0) i || (p x && eqb j i))

-- no row is entered yet
pub columns_start : (row : ℕ → ℕ → Bool) (n : ℕ) → Columns row 0 (replicate n 0)
columns_start row n x j = ap (λ (m : ℕ). has_bit m j) (zeros n x) ∙ has_none j ∙ sym (ap (λ (b : Bool). b && row j x) (le-ltb j 0 zero-le))
