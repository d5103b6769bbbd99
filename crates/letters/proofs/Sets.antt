-- The laws of has_letter. The idea: a set is its 192 slots, a slot is i of the low word, or 64 + i of the middle one, or 128 + i of the
-- high one, and in each of the three a law of in_slot is one of has_bit. Assumes nothing.
use mathlib.Core.Path.{◌≡◌, refl, sym, ap, ap₂, ◌∙◌, subst}
use mathlib.Core.Logic.{⊎_elim}
use mathlib.Core.Bool.{Bool, true, false, not, ◌&&◌, and-true, and-false, true≢false}
use Prim.Native.Nat.{ℕ, ◌+◌, ◌-◌, ◌^◌, ◌≤◌, ◌<◌}
use native.Mathlib.Omega.{arith}
use borrow.Author.Tests.{lt-ltb, le-ltb, ne_eqb}
use lib.Dec.{eqb, ltb}
use lib.Bits.{bit_and}
use lib.Count.{count_trailing_zeros}
use lib.ListN.{replicate}
use Rattle.basics.specs.Folds.{Less, LeastOf}
use Rattle.basics.proofs.Tests.{le_or_lt, neither_less, and_parts, and_of, same_test, by_test, by_equal, equal_added}
use Rattle.basics.proofs.Lists.{alike}
use Rattle.bits.specs.Bits.{has_bit, Least}
use Rattle.bits.proofs.Laws.{has_none, has_pow, has_and, has_not, has_high, least_trailing}
use Rattle.alphabet.specs.Alphabet.{is_letter, some_letter, lowest_letter}
use Rattle.letters.specs.LetterSet.{has_slot, slot_of, code_at, in_slot, has_letter, Some, LeastLetter, set_at}
use Rattle.letters.specs.declared.LetterSet.{LetterSet}
use Rattle.alphabet.proofs.Alphabet.{lowest_letter_is, lowest_none, letter_some}
use Rattle.letters.proofs.Slots.{by_half, code_low, slot_code, by_slots, code_less, code_equal, letter_slot, letter_at}

-- ---- the three words

pub at_low : (s : LetterSet) (i : ℕ) → i < 64 → in_slot s i ≡ has_bit s.low i
unfolding in_slot
at_low s i h = simp (lt-ltb i 64 h)

pub at_middle : (s : LetterSet) (i : ℕ) → i < 64 → in_slot s (64 + i) ≡ has_bit s.middle i
unfolding in_slot
at_middle s i h =
    let a : 64 ≤ 64 + i = omega arith in
    let b : 64 + i < 128 = omega arith in
    let e : 64 + i - 64 ≡ i = omega arith in
    simp (le-ltb (64 + i) 64 a, lt-ltb (64 + i) 128 b, e)

pub at_high : (s : LetterSet) (i : ℕ) → in_slot s (128 + i) ≡ has_bit s.high i
unfolding in_slot
at_high s i =
    let a : 64 ≤ 128 + i = omega arith in
    let b : 128 ≤ 128 + i = omega arith in
    let e : 128 + i - 128 ≡ i = omega arith in
    simp (le-ltb (128 + i) 64 a, le-ltb (128 + i) 128 b, e)

-- no word reaches past slot 191
pub at_past : (s : LetterSet) → s.high < 2 ^ 64 → (i : ℕ) → in_slot s (192 + i) ≡ false
at_past s f i = ap (in_slot s) (omega arith) ∙ at_high s (64 + i) ∙ has_high 64 s.high (64 + i) f (omega arith)

-- cases by the place of a slot to the 64 from base on
pub by_place : (base : ℕ) (P : ℕ → Type 0) → ((j : ℕ) → j < base → P j) → ((i : ℕ) → i < 64 → P (base + i)) → ((i : ℕ) → P (base + 64 + i)) → (j : ℕ) → P j
by_place base P a b d j =
    ⊎_elim (λ h. subst P (omega arith) (d (j - (base + 64))))
    (λ l. ⊎_elim (λ h. subst P (omega arith) (b (j - base) (omega arith))) (λ k. a j k) (le_or_lt base j)) (le_or_lt (base + 64) j)

-- the slots of equal words
pub same_from_high : (r s : LetterSet) → r.high ≡ s.high → (i : ℕ) → in_slot r (128 + i) ≡ in_slot s (128 + i)
same_from_high r s e i = at_high r i ∙ ap (λ (x : ℕ). has_bit x i) e ∙ sym (at_high s i)

pub same_from_middle : (r s : LetterSet) → r.middle ≡ s.middle → r.high ≡ s.high → (i : ℕ) → in_slot r (64 + i) ≡ in_slot s (64 + i)
same_from_middle r s e f i =
    ⊎_elim (λ h. subst (λ (j : ℕ). in_slot r j ≡ in_slot s j) (omega arith) (same_from_high r s f (i - 64)))
    (λ h. at_middle r i h ∙ ap (λ (x : ℕ). has_bit x i) e ∙ sym (at_middle s i h)) (le_or_lt 64 i)

-- ---- codes by their slots

pub code_in : (s : LetterSet) (i : ℕ) → i < 192 → has_letter s (code_at i) ≡ in_slot s i
unfolding has_letter
code_in s i l = let k = slot_code i l in ap₂ ◌&&◌ k.0 (ap (in_slot s) k.1)

pub not_in : (s : LetterSet) (c : ℕ) → has_slot c ≡ false → has_letter s c ≡ false
unfolding has_letter
not_in s c h = ap (λ (t : Bool). t && in_slot s (slot_of c)) h

pub is_in_its_slot : (s : LetterSet) (c : ℕ) → has_slot c ≡ true → has_letter s c ≡ in_slot s (slot_of c)
unfolding has_letter
is_in_its_slot s c h = ap (λ (t : Bool). t && in_slot s (slot_of c)) h

-- a code in a set is below 256
pub code_below : (s : LetterSet) (c : ℕ) → has_letter s c ≡ true → c < 256
unfolding has_letter
code_below s c h = by_half (c < 256) c (and_parts (has_slot c) (in_slot s (slot_of c)) h).0 (λ a b e. omega arith) (λ a b e. b)

-- a set whose slots are those of the codes that pass f
pub by_codes : (r : LetterSet) (f : ℕ → Bool) → ((i : ℕ) → i < 192 → in_slot r i ≡ f (code_at i)) → (c : ℕ) → has_letter r c ≡ (has_slot c && f c)
by_codes r f e =
    by_slots (λ (c : ℕ). has_letter r c ≡ (has_slot c && f c)) (λ c h. not_in r c h ∙ sym (ap (λ (t : Bool). t && f c) h))
    (λ i l. code_in r i l ∙ e i l ∙ sym (ap (λ (t : Bool). t && f (code_at i)) (slot_code i l).0))

-- and a set by its three words
pub by_words : (r : LetterSet) (f : ℕ → Bool) → ((i : ℕ) → i < 64 → has_bit r.low i ≡ f (code_at (0 + i))) → ((i : ℕ) → i < 64 → has_bit r.middle i ≡ f (code_at (64 + i)))
    → ((i : ℕ) → i < 64 → has_bit r.high i ≡ f (code_at (128 + i))) → (c : ℕ) → has_letter r c ≡ (has_slot c && f c)
by_words r f a b d =
    by_codes r f
    (by_place 64 (λ (i : ℕ). i < 192 → in_slot r i ≡ f (code_at i)) (λ i h l. at_low r i h ∙ a i h ∙ ap (λ (j : ℕ). f (code_at j)) (omega arith))
    (λ i h l. at_middle r i h ∙ b i h) (λ i l. at_high r i ∙ d i (omega arith)))

-- an operation that works bit by bit on the three words works code by code
pub pointwise : (op : Bool → Bool → Bool) (r s t : LetterSet) → op false false ≡ false
    → ((j : ℕ) → has_bit r.low j ≡ op (has_bit s.low j) (has_bit t.low j))
    → ((j : ℕ) → has_bit r.middle j ≡ op (has_bit s.middle j) (has_bit t.middle j))
    → ((j : ℕ) → has_bit r.high j ≡ op (has_bit s.high j) (has_bit t.high j))
    → (c : ℕ) → has_letter r c ≡ op (has_letter s c) (has_letter t c)
pointwise op r s t z a b d =
    by_slots (λ (c : ℕ). has_letter r c ≡ op (has_letter s c) (has_letter t c)) (λ c h. not_in r c h ∙ sym (ap₂ op (not_in s c h) (not_in t c h) ∙ z))
    (λ i l. code_in r i l ∙ slots i ∙ sym (ap₂ op (code_in s i l) (code_in t i l)))
  where
    slots : (i : ℕ) → in_slot r i ≡ op (in_slot s i) (in_slot t i)
    slots =
        by_place 64 (λ (i : ℕ). in_slot r i ≡ op (in_slot s i) (in_slot t i)) (λ i h. at_low r i h ∙ a i ∙ sym (ap₂ op (at_low s i h) (at_low t i h)))
        (λ i h. at_middle r i h ∙ b i ∙ sym (ap₂ op (at_middle s i h) (at_middle t i h)))
        (λ i. at_high r i ∙ d i ∙ sym (ap₂ op (at_high s i) (at_high t i)))

-- a set's letters word by word
pub in_low : (s : LetterSet) (i : ℕ) → i < 64 → has_letter s (code_at (0 + i)) ≡ has_bit s.low i
in_low s i h = code_in s (0 + i) (omega arith) ∙ ap (in_slot s) (omega arith) ∙ at_low s i h

pub in_middle : (s : LetterSet) (i : ℕ) → i < 64 → has_letter s (code_at (64 + i)) ≡ has_bit s.middle i
in_middle s i h = code_in s (64 + i) (omega arith) ∙ at_middle s i h

pub in_high : (s : LetterSet) (i : ℕ) → i < 64 → has_letter s (code_at (128 + i)) ≡ has_bit s.high i
in_high s i h = code_in s (128 + i) (omega arith) ∙ at_high s i

-- a set without 127 has the letters that pass f where its other slots are those of codes that do
pub by_letters : (r : LetterSet) → has_bit r.middle 31 ≡ false → (f : ℕ → Bool) → ((i : ℕ) → i < 64 → has_bit r.low i ≡ f (code_at (0 + i)))
    → ((i : ℕ) → i < 64 → (31 ≡ i → ⊥) → has_bit r.middle i ≡ f (code_at (64 + i)))
    → ((i : ℕ) → i < 64 → has_bit r.high i ≡ f (code_at (128 + i))) → (c : ℕ) → has_letter r c ≡ (is_letter c && f c)
by_letters r lacks f a b d =
    by_slots (λ (c : ℕ). has_letter r c ≡ (is_letter c && f c))
    (λ c h. not_in r c h ∙ sym (ap (λ t. t && f c) (by_test (is_letter c) (λ e. absurd (true≢false (sym (letter_slot c e) ∙ h))) (λ e. e))))
    (λ i l. code_in r i l ∙ slots i l ∙ sym (ap (λ t. t && f (code_at i)) (letter_at i l)))
  where
    letter : (i : ℕ) → (95 ≡ i → ⊥) → f (code_at i) ≡ (not (eqb 95 i) && f (code_at i))
    letter i e = sym (ap (λ t. not t && f (code_at i)) (ne_eqb 95 i e))

    slots : (i : ℕ) → i < 192 → in_slot r i ≡ (not (eqb 95 i) && f (code_at i))
    slots =
        by_place 64 (λ (i : ℕ). i < 192 → in_slot r i ≡ (not (eqb 95 i) && f (code_at i)))
        (λ i h l. at_low r i h ∙ a i h ∙ ap (λ (j : ℕ). f (code_at j)) (omega arith) ∙ letter i (λ e. omega arith))
        (λ i h l.
        at_middle r i h
        ∙ by_equal 31 i (λ e. subst (λ (j : ℕ). has_bit r.middle j ≡ (not (eqb 95 (64 + j)) && f (code_at (64 + j)))) e lacks)
        (λ e. b i h e ∙ letter (64 + i) (λ z. e (omega arith))))
        (λ i l. at_high r i ∙ d i (omega arith) ∙ letter (128 + i) (λ e. omega arith))

-- such a set has letters only
pub is_letter_in : (s : LetterSet) → has_bit s.middle 31 ≡ false → (c : ℕ) → has_letter s c ≡ true → is_letter c ≡ true
is_letter_in s lacks c h =
    let same = by_letters s lacks (has_letter s) (λ i k. sym (in_low s i k)) (λ i k e. sym (in_middle s i k)) (λ i k. sym (in_high s i k)) c in
    (and_parts (is_letter c) (has_letter s c) (sym same ∙ h)).0

-- and any set has besides letters 127 alone
pub is_letter_but : (s : LetterSet) (c : ℕ) → (127 ≡ c → ⊥) → (is_letter c && has_letter s c) ≡ has_letter s c
is_letter_but s =
    by_slots (λ (c : ℕ). (127 ≡ c → ⊥) → (is_letter c && has_letter s c) ≡ has_letter s c)
    (λ c h e. ap (λ t. is_letter c && t) (not_in s c h) ∙ and-false (is_letter c) ∙ sym (not_in s c h))
    (λ i l e. ap (λ t. t && has_letter s (code_at i)) (letter_at i l ∙ ap not (ne_eqb 95 i (λ z. e (sym (code_low 95 (omega arith)) ∙ ap code_at z)))))

-- ---- the middle word without 127

full_middle : (i : ℕ) → has_bit (2 ^ 64 - 1 - 2 ^ 31) i ≡ (ltb i 64 && not (eqb 31 i))
full_middle i = has_not 64 (2 ^ 31) i (omega arith) ∙ ap (λ t. ltb i 64 && not t) (has_pow 31 i)

pub middle_lacks : has_bit (2 ^ 64 - 1 - 2 ^ 31) 31 ≡ false
middle_lacks = full_middle 31

pub middle_has : (i : ℕ) → i < 64 → (31 ≡ i → ⊥) → has_bit (2 ^ 64 - 1 - 2 ^ 31) i ≡ true
middle_has i h e = full_middle i ∙ ap₂ (λ t u. t && not u) (lt-ltb i 64 h) (ne_eqb 31 i e)

pub cut_lacks : (m : ℕ) → has_bit (bit_and m (2 ^ 64 - 1 - 2 ^ 31)) 31 ≡ false
cut_lacks m = has_and m (2 ^ 64 - 1 - 2 ^ 31) 31 ∙ ap (λ t. has_bit m 31 && t) middle_lacks ∙ and-false (has_bit m 31)

pub cut_has : (m i : ℕ) → i < 64 → (31 ≡ i → ⊥) → has_bit (bit_and m (2 ^ 64 - 1 - 2 ^ 31)) i ≡ has_bit m i
cut_has m i h e = has_and m (2 ^ 64 - 1 - 2 ^ 31) i ∙ ap (λ t. has_bit m i && t) (middle_has i h e) ∙ and-true (has_bit m i)

-- ---- the empty set

-- three empty words are the empty set
pub zero_none : (s : LetterSet) → s.low ≡ 0 → s.middle ≡ 0 → s.high ≡ 0 → (c : ℕ) → has_letter s c ≡ false
zero_none s a b d c =
    by_words s (λ k. false) (λ i h. ap (λ (x : ℕ). has_bit x i) a ∙ has_none i) (λ i h. ap (λ (x : ℕ). has_bit x i) b ∙ has_none i)
    (λ i h. ap (λ (x : ℕ). has_bit x i) d ∙ has_none i) c ∙ and-false (has_slot c)

-- ---- the word with the lowest letter

-- the set has the word m from slot base on, and no slot below base
pub record Word (s : LetterSet) (base m : ℕ) : Type 0 where
  pub fits : m < 2 ^ 64
  pub room : base ≤ 128
  pub at : (i : ℕ) → i < 64 → in_slot s (base + i) ≡ has_bit m i
  pub below : (j : ℕ) → j < base → in_slot s j ≡ false

pub low_word : (s : LetterSet) → s.low < 2 ^ 64 → Word s 0 s.low
low_word s f = record { fits = f; room = omega arith; at = λ i h. ap (in_slot s) (omega arith) ∙ at_low s i h; below = λ j h. absurd (omega arith) }

pub middle_word : (s : LetterSet) → s.low ≡ 0 → s.middle < 2 ^ 64 → Word s 64 s.middle
middle_word s z f = record { fits = f; room = omega arith; at = at_middle s; below = λ j h. at_low s j h ∙ ap (λ (x : ℕ). has_bit x j) z ∙ has_none j }

pub high_word : (s : LetterSet) → s.low ≡ 0 → s.middle ≡ 0 → s.high < 2 ^ 64 → Word s 128 s.high
high_word s z y f = record { fits = f; room = omega arith; at = λ i h. at_high s i; below = none }
  where
    none : (j : ℕ) → j < 128 → in_slot s j ≡ false
    none =
        by_place 64 (λ (j : ℕ). j < 128 → in_slot s j ≡ false) (λ j h k. at_low s j h ∙ ap (λ (x : ℕ). has_bit x j) z ∙ has_none j)
        (λ i h k. at_middle s i h ∙ ap (λ (x : ℕ). has_bit x i) y ∙ has_none i) (λ i k. absurd (omega arith))

-- where the other words are empty and the set is not, the high word is not
pub high_some : (s : LetterSet) → s.low ≡ 0 → s.middle ≡ 0 → Some s → 0 < s.high
high_some s z y e = ⊎_elim (λ p. absurd (true≢false (sym e.here ∙ zero_none s z y (omega arith) e.code))) (λ q. q) (le_or_lt s.high 0)

-- the code of the least slot is the lowest letter
least_code : (s : LetterSet) (i : ℕ) → i < 192 → LeastOf (in_slot s) i → LeastLetter s (code_at i)
least_code s i l k = record { here = code_in s i l ∙ k.here; none = none }
  where
    none : (d : ℕ) → d < code_at i → has_letter s d ≡ false
    none d h =
        by_test (has_slot d)
        (λ e. is_in_its_slot s d e ∙ k.none (slot_of d) (code_less i d e h))
        (not_in s d)

module _ (s : LetterSet) (base m : ℕ) (w : Word s base m) where
  -- the code of the word's least member is the set's lowest letter
  pub least_of : (u : ℕ) → u < 64 → Least m u → LeastLetter s (code_at (base + u))
  least_of u h l = least_code s (base + u) (omega (arith, w.room)) record { here = w.at u h ∙ l.here; none = none }
    where
      none : (j : ℕ) → j < base + u → in_slot s j ≡ false
      none =
          by_place base (λ (j : ℕ). j < base + u → in_slot s j ≡ false) (λ j k _. w.below j k) (λ i k j. w.at i k ∙ l.none i (omega arith))
          (λ i k. absurd (omega arith))

  pub some_of : 0 < m → Some s
  some_of h =
      let l = least_trailing 64 m h w.fits in
      record { code = code_at (base + count_trailing_zeros 64 m); here = (least_of (count_trailing_zeros 64 m) l.0 l.1).here }

  -- and with that taken off the word, it is taken off the set
  pub rest_of : (r : LetterSet) (n : ℕ) → Word r base n → ((i : ℕ) → in_slot r (base + 64 + i) ≡ in_slot s (base + 64 + i)) → 0 < m
      → ((u : ℕ) → Least m u → Less (has_bit m) u (has_bit n)) → (t : ℕ) → LeastLetter s t → Less (has_letter s) t (has_letter r)
  rest_of r n v same h e t l =
      let u = count_trailing_zeros 64 m in
      let k = least_trailing 64 m h w.fits in
      let first = least_of u k.0 k.1 in
      let lowest = code_at (base + u) in
      let slots : (j : ℕ) → in_slot r j ≡ (in_slot s j && not (eqb (base + u) j))
      = by_place base (λ (j : ℕ). in_slot r j ≡ (in_slot s j && not (eqb (base + u) j)))
      (λ j p. v.below j p ∙ sym (ap (λ (b : Bool). b && not (eqb (base + u) j)) (w.below j p)))
      (λ i p. v.at i p ∙ e u k.1 i ∙ sym (ap₂ (λ (a b : Bool). a && not b) (w.at i p) (equal_added base u i)))
      (λ i. same i ∙ sym (ap (λ (b : Bool). in_slot s (base + 64 + i) && not b) (ne_eqb (base + u) (base + 64 + i) (λ y. omega (arith, k.0))) ∙ and-true (in_slot s (base + 64 + i)))) in
      let z : t ≡ lowest = neither_less t lowest (λ p. true≢false (sym l.here ∙ first.none t p)) (λ p. true≢false (sym first.here ∙ l.none lowest p)) in
      subst (λ (d : ℕ). Less (has_letter s) d (has_letter r)) (sym z)
      (by_slots (λ (c : ℕ). has_letter r c ≡ (has_letter s c && not (eqb lowest c)))
      (λ c p. not_in r c p ∙ sym (ap (λ (b : Bool). b && not (eqb lowest c)) (not_in s c p)))
      (λ i p.
      code_in r i p ∙ slots i ∙ sym (ap₂ (λ (a b : Bool). a && not b) (code_in s i p) (code_equal (base + u) i (omega (arith, w.room, k.0)) p))))

-- ---- a set that holds the letters that pass f, against what the specification says of f

-- a test that only letters pass
pub only_letters : (f : ℕ → Bool) → ((c : ℕ) → f c ≡ true → is_letter c ≡ true) → (c : ℕ) → f c ≡ (is_letter c && f c)
only_letters f letters c = same_test (f c) (is_letter c && f c) (λ h. and_of (is_letter c) (f c) (letters c h) h) (λ h. (and_parts (is_letter c) (f c) h).1)

module _ (s : LetterSet) (f : ℕ → Bool) (same : (c : ℕ) → has_letter s c ≡ (is_letter c && f c)) where
  held : (c : ℕ) → has_letter s c ≡ true → (is_letter c ≡ true) × (f c ≡ true)
  held c h = and_parts (is_letter c) (f c) (sym (same c) ∙ h)

  lowest_in : some_letter f ≡ true → has_letter s (lowest_letter f) ≡ true
  lowest_in h = let q = lowest_letter_is f h in same (lowest_letter f) ∙ and_of (is_letter (lowest_letter f)) (f (lowest_letter f)) q.0 q.1

  pub some_same : some_letter f ≡ true → Some s
  some_same h = record { code = lowest_letter f; here = lowest_in h }

  pub lowest_same : (t : ℕ) → LeastLetter s t → t ≡ lowest_letter f
  lowest_same t l =
      let p = held t l.here in
      let some = letter_some f t p.0 p.1 in
      let m = lowest_letter f in
      neither_less t m (λ h. true≢false (sym p.1 ∙ lowest_none f some t p.0 h)) (λ h. true≢false (sym (lowest_in some) ∙ l.none m h))

  -- is_empty's answer r
  pub none_same : (r : Bool) → (r ≡ true → (c : ℕ) → has_letter s c ≡ false) → (r ≡ false → Some s) → r ≡ not (some_letter f)
  none_same true empty some = by_test (some_letter f) (λ e. absurd (true≢false (sym (lowest_in e) ∙ empty refl (lowest_letter f)))) (λ e. ap not (sym e))
  none_same false empty some = let e = some refl in let p = held e.code e.here in ap not (sym (letter_some f e.code p.0 p.1))

-- an array of empty sets has no letter
pub all_empty : (n : ℕ) (none : LetterSet) → ((c : ℕ) → has_letter none c ≡ false) → (i c : ℕ) → has_letter (set_at (replicate n none) i) c ≡ false
all_empty n none empty i c =
    alike (λ (s : LetterSet). has_letter s c ≡ false) n none record { low = 0; middle = 0; high = 0 } (empty c) (zero_none record { low = 0; middle = 0; high = 0 } refl refl refl c) i
