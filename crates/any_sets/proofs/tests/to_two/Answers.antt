-- Each step leads to position 2, on one path or on two that have parted, and its set has a letter. Assumes nothing.
use mathlib.Core.Path.{◌≡◌, refl, sym, ap, ap₂, ◌∙◌, subst}
use mathlib.Core.Bool.{true, ◌&&◌, true≢false}
use mathlib.Core.List.{List}
use Prim.Native.Nat.{ℕ}
use native.Mathlib.Omega.{arith}
use lib.Dec.{leb, ltb}
use lib.ListN.{get_or, replicate}
use borrow.Author.Tests.{eqb-true}
use Rattle.basics.proofs.Lists.{alike}
use Rattle.basics.proofs.Tests.{and_parts, and_of}
use Rattle.bits.specs.Bits.{has_bit}
use Rattle.bits.proofs.Laws.{has_none, has_pow}
use Rattle.alphabet.proofs.Alphabet.{letter_some}
use Rattle.letters.specs.LetterSet.{has_letter, set_at}
use Rattle.letters.specs.declared.LetterSet.{LetterSet}
use Rattle.nodes.specs.Nodes.{pack, left_of, right_of, goes, Step, single, beside}
use Rattle.nodes.specs.declared.Steps.{Steps}
use Rattle.shares.specs.Tables.{held}
use Rattle.texts.specs.Texts.{Showable}
use Rattle.any_sets.proofs.tests.to_two.Goals as goal

abbrev rows : List ℕ
rows = replicate 61 4

to_position : (u a : ℕ) → goes rows u a ≡ true → 2 ≡ a
to_position u a h =
    alike (λ (m : ℕ). has_bit m a ≡ true → 2 ≡ a) 61 4 0 (λ e. eqb-true 2 a (sym (has_pow 2 a) ∙ e)) (λ e. absurd (true≢false (sym e ∙ has_none a))) u
    (and_parts (has_bit (get_or rows u 0) a) (leb 1 a && ltb a 61) h).0

module _ (sets : List LetterSet) (letter : has_letter (set_at sets 2) 200 ≡ true) where
  some : held sets 2 2 200 ≡ true
  some = and_of (has_letter (set_at sets 2) 200) (has_letter (set_at sets 2) 200) letter letter

  alone : Showable sets 2
  unfolding left_of right_of
  alone = record { left = omega arith; right = omega arith; some = letter_some (held sets 2 2) 200 refl some }

  parted : Showable sets (pack 2 2)
  unfolding left_of right_of pack
  parted = record { left = omega arith; right = omega arith; some = letter_some (held sets 2 2) 200 refl some }

  shown : (t : Steps) → t.follow ≡ rows → (x y : ℕ) → Step t x y → Showable sets y
  shown t e x y (single {a} l g) = subst (Showable sets) (to_position x a (ap (λ (F : List ℕ). goes F x a) (sym e) ∙ g)) alone
  shown t e x y (beside {a} {b} p) =
      subst (Showable sets)
      (ap₂ pack (to_position (left_of x) a (ap (λ (F : List ℕ). goes F (left_of x) a) (sym e) ∙ p.left))
      (to_position (right_of x) b (ap (λ (F : List ℕ). goes F (right_of x) b) (sym e) ∙ p.right)))
      parted

pub returns : goal.returns
returns c x y s = shown c.args.sets.now c.requires _ refl x y s
