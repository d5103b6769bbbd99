-- A slice that a read fills from byte `from` on has what it had before, and then what was read. Assumes nothing.
use mathlib.Core.Path.{◌≡◌, sym, ap, ap₂, ◌∙◌}
use mathlib.Core.List.{List, ◌++◌}
use Prim.Native.Nat.{ℕ, ◌+◌, ◌≤◌}
use native.Mathlib.Nat.{le_refl}
use lib.ListN.{length, take, drop}
use lib.Seq.{take-add, take-append-le, drop_at, length-take-le}
use borrow.Rule.Slice.PartMut.{put_mid, post_of}
use Rattle.std.proofs.lemmas.Slice.{take-put_mid_below}

pub filled_on : (from room n : ℕ) (xs ys : List ℕ) → from ≤ length xs → n ≤ length ys → take from xs ++ take n ys ≡ take (from + n) (put_mid from room xs ys)
filled_on from room n xs ys within fits =
    let before : take from (put_mid from room xs ys) ≡ take from xs = take-put_mid_below from room xs ys from (le_refl from) within in
    let since : take n (drop from (put_mid from room xs ys)) ≡ take n ys =
    ap (take n) (drop_at (take from xs) (ys ++ post_of from room xs) from (length-take-le from xs within)) ∙ take-append-le n ys (post_of from room xs) fits in
    sym (take-add from n (put_mid from room xs ys) ∙ ap₂ ◌++◌ before since)
