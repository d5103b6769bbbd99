-- The letters are the codes of two ranges, which have none in common. Assumes nothing.
use mathlib.Core.Path.{◌≡◌, ap}
use mathlib.Core.Bool.{Bool, true, false, ◌&&◌}
use Prim.Native.Nat.{ℕ}
use native.Mathlib.Omega.{arith}
use lib.Dec.{leb}
use borrow.Author.Tests.{leb-true, lt-leb}
use Rattle.basics.proofs.Tests.{and_parts}
use Rattle.alphabet.proofs.Flipping.{flip_twice}
use Rattle.alphabet.proofs.flip_letters.Goals as goal

apart : (c : ℕ) → (leb 32 c && leb c 126) ≡ true → (leb 160 c && leb c 255) ≡ false
apart c h = let m = leb-true c 126 (and_parts (leb 32 c) (leb c 126) h).1 in ap (λ (t : Bool). t && leb c 255) (lt-leb 160 c (omega arith))

pub returns : goal.returns
returns c =
    let start = c.args in
    let low = c.flip in
    let high = c.flip-2 in
    flip_twice (λ x. leb 32 x && leb x 126) (λ x. leb 160 x && leb x 255) start.mask start.table.now low.new.table high.new.table apart low.ensures high.ensures
