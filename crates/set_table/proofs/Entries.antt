-- Entries of both tables. Assumes nothing.
use mathlib.Core.Path.{◌≡◌}
use Prim.Native.Nat.{ℕ}
use Rattle.letters.specs.declared.LetterSet.{LetterSet}

-- with equal sets and equal credits
pub same_entry : {s s' : LetterSet} {n n' : ℕ} → s ≡ s' → n ≡ n' → ◌≡◌ {A = LetterSet × ℕ} (s, n) (s', n')
same_entry p q k = (p k, q k)
