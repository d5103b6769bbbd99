-- The first bytes of a text, by a pattern of them. Assumes nothing.
use mathlib.Core.Path.{◌≡◌}
use mathlib.Core.List.{List, [], ◌∷◌}
use Prim.Native.Nat.{ℕ, suc, ◌-◌, ◌<◌}
use native.Mathlib.Omega.{arith}
use lib.ListN.{length, take, drop, length-drop}
use lib.Seq.{take_all}
use Rattle.pattern.specs.Grammar.{peek}

-- the text after the first k
pub text_after : (k : ℕ) (s : List ℕ) → take (length s - k) (drop k s) ≡ drop k s
text_after k s = let l = length-drop k s in take_all (length s - k) (drop k s) (omega arith)

-- no byte of the grammar is first where there is none
pub none_first : (s : List ℕ) (b : ℕ) → length s < 1 → peek s ≡ suc b → ⊥
none_first [] b l e = absurd (omega arith)
none_first (x ∷ s) b l e = absurd (omega arith)
