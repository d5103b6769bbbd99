-- A letter's slot is the only one in the three words. Assumes nothing.
use mathlib.Core.Path.{◌≡◌, sym, ap, ◌∙◌}
use mathlib.Core.Bool.{Bool, true, ◌&&◌}
use Prim.Native.Nat.{ℕ, ◌+◌, ◌<◌}
use native.Mathlib.Omega.{arith}
use lib.Dec.{eqb, leb}
use borrow.Author.Tests.{leb-true, eqb-true, eq-eqb, le-leb}
use Rattle.basics.proofs.Tests.{and_parts, and_of, same_test}
use Rattle.bits.specs.Bits.{has_bit}
use Rattle.alphabet.specs.Alphabet.{is_letter}
use Rattle.letters.specs.LetterSet.{code_at, slot_of, has_slot}
use Rattle.letters.proofs.Slots.{slot_small, code_slot, code_equal, letter_slot}
use Rattle.letters.proofs.Sets.{by_words}
use Rattle.ranges.proofs.only.Goals as goal

-- the range from a code to itself is that code
alone : (code k : ℕ) → (leb code k && leb k code) ≡ eqb code k
alone code k =
    same_test (leb code k && leb k code) (eqb code k)
    (λ t.
    let p = and_parts (leb code k) (leb k code) t in
    let a = leb-true code k p.0 in
    let b = leb-true k code p.1 in
    eq-eqb code k (omega arith))
    (λ t.
    let e = eqb-true code k t in
    and_of (leb code k) (leb k code) (le-leb code k (omega arith)) (le-leb k code (omega arith)))

-- a word with the bit of the code's slot, or with none
in_word : (code slot base w i : ℕ) → has_slot code ≡ true → slot ≡ slot_of code → base + i < 192 → has_bit w i ≡ eqb slot (base + i) → has_bit w i ≡ eqb code (code_at (base + i))
in_word code slot base w i h z l e =
    e ∙ ap (λ (x : ℕ). eqb x (base + i)) z ∙ sym (code_equal (slot_of code) (base + i) (slot_small code h) l) ∙ ap (λ (x : ℕ). eqb x (code_at (base + i))) (code_slot code h)

pub slot_of-slot-requires : goal.slot_of-slot-requires
slot_of-slot-requires c = letter_slot c.args.code (let l = c.is_letter in sym l.ensures ∙ c.if-not-is_letter.false)

pub returns : goal.returns
returns c k =
    let code = c.args.code in
    let letter : is_letter code ≡ true = let l = c.is_letter in sym l.ensures ∙ c.if-not-is_letter.false in
    let h = letter_slot code letter in
    let slot = c.slot_of-slot in
    by_words _ (eqb code)
    (λ i m. in_word code slot.result 0 c.bit.result i h slot.ensures (omega arith) (c.bit.ensures i m))
    (λ i m. in_word code slot.result 64 c.bit-2.result i h slot.ensures (omega arith) (c.bit-2.ensures i m))
    (λ i m. in_word code slot.result 128 c.bit-3.result i h slot.ensures (omega arith) (c.bit-3.ensures i m)) k
    ∙ same_test (has_slot k && eqb code k) (is_letter k && eqb code k)
    (λ t. let e = (and_parts (has_slot k) (eqb code k) t).1 in and_of (is_letter k) (eqb code k) (ap is_letter (sym (eqb-true code k e)) ∙ letter) e)
    (λ t. let p = and_parts (is_letter k) (eqb code k) t in and_of (has_slot k) (eqb code k) (letter_slot k p.0) p.1)
    ∙ sym (ap (λ (t : Bool). is_letter k && t) (alone code k))
