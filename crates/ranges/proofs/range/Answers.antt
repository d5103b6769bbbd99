-- A word holds those of its slots whose codes lie in the range: one law for the three words. Of these codes the letters are
-- left. Assumes nothing.
use mathlib.Core.Path.{◌≡◌, refl, sym, ap, ap₂, ◌∙◌}
use mathlib.Core.Bool.{Bool, not, ◌&&◌}
use Prim.Native.Nat.{ℕ, ◌+◌, ◌<◌}
use native.Mathlib.Omega.{arith}
use lib.Dec.{ltb, leb}
use borrow.Author.Tests.{lt-ltb}
use Rattle.basics.proofs.Tests.{not_less, below_next}
use Rattle.bits.specs.Bits.{has_bit}
use Rattle.letters.specs.LetterSet.{code_at}
use Rattle.letters.proofs.Sets.{by_letters, cut_lacks, cut_has}
use Rattle.ranges.proofs.range.Goals as goal

module _ (a b from to : ℕ) (first : (i : ℕ) → i < 192 → ltb i from ≡ ltb (code_at i) a) (last : (i : ℕ) → i < 192 → ltb i to ≡ ltb (code_at i) (b + 1)) where
  inside : (base w : ℕ) → ((j : ℕ) → has_bit w j ≡ (ltb j 64 && (leb from (base + j) && ltb (base + j) to))) → (i : ℕ) → i < 64 → base + i < 192
      → has_bit w i ≡ (leb a (code_at (base + i)) && leb (code_at (base + i)) b)
  inside base w word i h l =
      let k = code_at (base + i) in
      word i ∙ ap (λ (t : Bool). t && (leb from (base + i) && ltb (base + i) to)) (lt-ltb i 64 h)
      ∙ ap₂ ◌&&◌ (sym (not_less (base + i) from) ∙ ap not (first (base + i) l) ∙ not_less k a) (last (base + i) l ∙ below_next k (b + 1) b refl)

pub returns : goal.returns
returns c =
    let a = c.args.a in
    let b = c.args.b in
    let fits = inside a b c.slots_below-from.result c.slots_below-to.result c.slots_below-from.ensures c.slots_below-to.ensures in
    by_letters _ (cut_lacks c.word-2.result) (λ k. leb a k && leb k b) (λ i h. fits 0 c.word.result c.word.ensures i h (omega arith))
    (λ i h e. cut_has _ i h e ∙ fits 64 c.word-2.result c.word-2.ensures i h (omega arith))
    (λ i h. fits 128 c.word-3.result c.word-3.ensures i h (omega arith))
