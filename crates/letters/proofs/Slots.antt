-- Codes and slots. The codes that have a slot are, in rising order, those of the slots 0 to 191. Assumes nothing.
use mathlib.Core.Path.{◌≡◌, sym, ap, ◌∙◌, subst}
use mathlib.Core.Logic.{⊎_elim}
use mathlib.Core.Bool.{Bool, true, false, not, ◌&&◌}
use Prim.Native.Nat.{ℕ, ◌+◌, ◌-◌, ◌≤◌, ◌<◌}
use native.Mathlib.Omega.{arith}
use lib.Dec.{eqb, ltb}
use borrow.Author.Tests.{eqb-true, eqb-false, lt-ltb, le-ltb, ne_eqb, eq-eqb, not-true}
use Rattle.basics.proofs.Tests.{le_or_lt, and_when, same_test, by_test, if_yes, if_no}
use Rattle.alphabet.specs.Alphabet.{is_letter}
use Rattle.alphabet.proofs.Alphabet.{in_first, in_second, by_ranges}
use Rattle.letters.specs.LetterSet.{has_slot, slot_of, code_at}

-- ---- the two halves

pub slot_low : (c : ℕ) → c < 128 → slot_of c ≡ c - 32
unfolding slot_of
slot_low c h = if_yes (c - 32) (c - 64) (ltb c 128) (lt-ltb c 128 h)

pub slot_high : (c : ℕ) → 128 ≤ c → slot_of c ≡ c - 64
unfolding slot_of
slot_high c h = if_no (c - 32) (c - 64) (ltb c 128) (le-ltb c 128 h)

pub code_low : (i : ℕ) → i < 96 → code_at i ≡ 32 + i
unfolding code_at
code_low i h = if_yes (32 + i) (64 + i) (ltb i 96) (lt-ltb i 96 h)

pub code_high : (i : ℕ) → 96 ≤ i → code_at i ≡ 64 + i
unfolding code_at
code_high i h = if_no (32 + i) (64 + i) (ltb i 96) (le-ltb i 96 h)

pub has_low : (c : ℕ) → 32 ≤ c → c < 128 → has_slot c ≡ true
unfolding has_slot
has_low c l h = in_first 32 127 160 255 c l (omega arith)

pub has_high : (c : ℕ) → 160 ≤ c → c < 256 → has_slot c ≡ true
unfolding has_slot
has_high c l h = in_second 32 127 160 255 c l (omega arith)

-- cases by the half of a code that has a slot, and by that of a slot
pub by_half : (P : Type 0) (c : ℕ) → has_slot c ≡ true → (32 ≤ c → c < 128 → slot_of c ≡ c - 32 → P) → (160 ≤ c → c < 256 → slot_of c ≡ c - 64 → P) → P
unfolding has_slot
by_half P c h f g =
    by_ranges P 32 127 160 255 c h (λ l m. f l (omega arith) (slot_low c (omega arith))) (λ l m. g l (omega arith) (slot_high c (omega arith)))

pub by_slot : (P : Type 0) (i : ℕ) → (i < 96 → code_at i ≡ 32 + i → P) → (96 ≤ i → code_at i ≡ 64 + i → P) → P
by_slot P i f g = ⊎_elim (λ h. g h (code_high i h)) (λ h. f h (code_low i h)) (le_or_lt 96 i)

pub no_slot : (c : ℕ) → (32 ≤ c → c < 128 → ⊥) → (160 ≤ c → c < 256 → ⊥) → has_slot c ≡ false
no_slot c f g = by_test (has_slot c) (λ e. absurd (by_half ⊥ c e (λ a b k. f a b) (λ a b k. g a b))) (λ e. e)

-- ---- the slot of a code and the code of a slot

pub slot_small : (c : ℕ) → has_slot c ≡ true → slot_of c < 192
slot_small c h = by_half (slot_of c < 192) c h (λ a b e. omega arith) (λ a b e. omega arith)

pub code_slot : (c : ℕ) → has_slot c ≡ true → code_at (slot_of c) ≡ c
code_slot c h =
    by_half (code_at (slot_of c) ≡ c) c h (λ a b e. let k = code_low (slot_of c) (omega arith) in omega arith)
    (λ a b e. let k = code_high (slot_of c) (omega arith) in omega arith)

pub slot_code : (i : ℕ) → i < 192 → (has_slot (code_at i) ≡ true) × (slot_of (code_at i) ≡ i)
slot_code i l =
    by_slot ((has_slot (code_at i) ≡ true) × (slot_of (code_at i) ≡ i)) i
    (λ h e. let k = slot_low (code_at i) (omega arith) in (has_low (code_at i) (omega arith) (omega arith), omega arith))
    (λ h e. let k = slot_high (code_at i) (omega arith) in (has_high (code_at i) (omega arith) (omega arith), omega arith))

-- cases by whether a code has a slot
pub by_slots : (P : ℕ → Type 0) → ((c : ℕ) → has_slot c ≡ false → P c) → ((i : ℕ) → i < 192 → P (code_at i)) → (c : ℕ) → P c
by_slots P none some c = by_test (has_slot c) (λ h. subst P (code_slot c h) (some (slot_of c) (slot_small c h))) (none c)

-- the order is the same
pub code_less : (i d : ℕ) → has_slot d ≡ true → d < code_at i → slot_of d < i
code_less i d h l =
    by_half (slot_of d < i) d h (λ a b e. by_slot (slot_of d < i) i (λ m k. omega arith) (λ m k. omega arith))
    (λ a b e. by_slot (slot_of d < i) i (λ m k. omega arith) (λ m k. omega arith))

pub code_equal : (i j : ℕ) → i < 192 → j < 192 → eqb (code_at i) (code_at j) ≡ eqb i j
code_equal i j l m =
    same_test (eqb (code_at i) (code_at j)) (eqb i j)
    (λ t. eq-eqb i j (sym (slot_code i l).1 ∙ ap slot_of (eqb-true (code_at i) (code_at j) t) ∙ (slot_code j m).1))
    (λ t. eq-eqb (code_at i) (code_at j) (ap code_at (eqb-true i j t)))

-- ---- letters have slots, and only slot 95 is no letter's

pub letter_slot : (c : ℕ) → is_letter c ≡ true → has_slot c ≡ true
letter_slot c h = by_ranges (has_slot c ≡ true) 32 126 160 255 c h (λ a b. has_low c a (omega arith)) (λ a b. has_high c a (omega arith))

pub letter_has : (c : ℕ) (t : Bool) → (is_letter c && (has_slot c && t)) ≡ (is_letter c && t)
letter_has c t = and_when (is_letter c) (has_slot c && t) t (λ h. ap (λ (u : Bool). u && t) (letter_slot c h))

pub letter_at : (i : ℕ) → i < 192 → is_letter (code_at i) ≡ not (eqb 95 i)
letter_at i l = same_test (is_letter (code_at i)) (not (eqb 95 i)) (λ t. ap not (ne_eqb 95 i (λ e. other e t))) (λ t. letter (eqb-false 95 i (not-true (eqb 95 i) t)))
  where
    other : 95 ≡ i → is_letter (code_at i) ≡ true → ⊥
    other e t = let k = code_low i (omega arith) in by_ranges ⊥ 32 126 160 255 (code_at i) t (λ a b. omega arith) (λ a b. omega arith)

    letter : (95 ≡ i → ⊥) → is_letter (code_at i) ≡ true
    letter d =
        by_slot (is_letter (code_at i) ≡ true) i (λ h e. in_first 32 126 160 255 (code_at i) (omega arith) (omega arith))
        (λ h e. in_second 32 126 160 255 (code_at i) (omega arith) (omega arith))
