-- The order of the letters: what the first letter of a set is, how a range decides it, and the sets of the ranges. In each word a range
-- of codes below 128 is a run of bits. Assumes nothing.
use mathlib.Core.Path.{◌≡◌, refl, sym, ap, ◌∙◌}
use mathlib.Core.Logic.{⊎_elim}
use mathlib.Core.Bool.{Bool, true, false, not, ◌&&◌, and_assoc, and_self_left, true≢false}
use mathlib.Core.List.{List, [], ◌∷◌}
use Prim.Native.Nat.{ℕ, zero, suc, ◌+◌, ◌-◌, ◌^◌, ◌≤◌, ◌<◌}
use native.Mathlib.Omega.{arith}
use lib.Dec.{leb}
use borrow.Author.Tests.{leb-true}
use Rattle.std.specs.Prelude.{if◌then◌else◌}
use Rattle.basics.proofs.Tests.{and_parts, and_of, same_test, by_test, if_yes, if_no, if_either, le_or_lt}
use Rattle.bits.specs.Bits.{has_bit}
use Rattle.alphabet.specs.Alphabet.{is_letter, some_from, lowest_from, some_letter, lowest_letter}
use Rattle.alphabet.proofs.Alphabet.{in_first, lowest_letter_is, lowest_none, letter_below, letter_some}
use Rattle.letters.specs.LetterSet.{has_slot, slot_of, in_slot, has_letter, LeastLetter}
use native.Mathlib.Numerals.{add-one}
use lib.ListN.{get_or, drop}
use lib.Seq.{drop-cons}
use Rattle.letters.specs.declared.LetterSet.{LetterSet}
use Rattle.letters.specs.Order.{Range, in_range, small, capital, digit, order, place_by, place, among, first_by, first_letter}
use Rattle.letters.proofs.Sets.{is_letter_in, only_letters, some_same, lowest_same}

-- ---- the first letter

first_by_serves : (rs : List Range) (f : ℕ → Bool) → some_letter f ≡ true → (is_letter (first_by rs f) ≡ true) × (f (first_by rs f) ≡ true)
first_by_serves [] f h = lowest_letter_is f h
first_by_serves (r ∷ rs) f h =
    let l = lowest_letter (among r f) in
    if_either (λ (c : ℕ). (is_letter c ≡ true) × (f c ≡ true)) l (first_by rs f) (some_letter (among r f))
    (λ e. let q = lowest_letter_is (among r f) e in (q.0, (and_parts (f l) (in_range r l) q.1).0)) (λ e. first_by_serves rs f h)

-- the first letter of a set that has one is a letter of it
pub first_letter_serves : (f : ℕ → Bool) → some_letter f ≡ true → (is_letter (first_letter f) ≡ true) × (f (first_letter f) ≡ true)
unfolding first_letter
first_letter_serves = first_by_serves order

-- ---- no letter of the set has a lower place

lowest_least : (f : ℕ → Bool) → some_letter f ≡ true → (c : ℕ) → is_letter c ≡ true → f c ≡ true → lowest_letter f ≤ c
lowest_least f h c i k = ⊎_elim (λ l. l) (λ l. absurd (true≢false (sym k ∙ lowest_none f h c i l))) (le_or_lt (lowest_letter f) c)

first_place : (rs : List Range) (f : ℕ → Bool) → some_letter f ≡ true → (c : ℕ) → is_letter c ≡ true → f c ≡ true → place_by rs (first_by rs f) ≤ place_by rs c
first_place [] f h c i k = lowest_least f h c i k
first_place (r ∷ rs) f h c i k = by_test (some_letter (among r f)) here (later (first_place rs f h c i k))
  where
    -- the place of a code that is in the range, and of one that is not
    inside : (d : ℕ) → in_range r d ≡ true → place_by (r ∷ rs) d ≡ d
    inside d e = if_yes d (256 + place_by rs d) (in_range r d) e

    outside : (d : ℕ) → in_range r d ≡ false → place_by (r ∷ rs) d ≡ 256 + place_by rs d
    outside d e = if_no d (256 + place_by rs d) (in_range r d) e

    here : some_letter (among r f) ≡ true → place_by (r ∷ rs) (first_by (r ∷ rs) f) ≤ place_by (r ∷ rs) c
    here e =
        let l = lowest_letter (among r f) in
        let q = lowest_letter_is (among r f) e in
        let first : place_by (r ∷ rs) (first_by (r ∷ rs) f) ≡ l = ap (place_by (r ∷ rs)) (if_yes l (first_by rs f) (some_letter (among r f)) e) ∙ inside l (and_parts (f l) (in_range r l) q.1).1 in
        by_test (in_range r c)
        (λ y. let least = lowest_least (among r f) e c i (and_of (f c) (in_range r c) k y) in let p = inside c y in omega arith)
        (λ n. let low = letter_below l q.0 in let p = outside c n in omega arith)

    later : place_by rs (first_by rs f) ≤ place_by rs c → some_letter (among r f) ≡ false → place_by (r ∷ rs) (first_by (r ∷ rs) f) ≤ place_by (r ∷ rs) c
    later least e =
        let m = first_by rs f in
        let q = first_by_serves rs f h in
        let out : (d : ℕ) → is_letter d ≡ true → f d ≡ true → in_range r d ≡ false
        = λ d a b. by_test (in_range r d) (λ y. absurd (true≢false (sym (letter_some (among r f) d a (and_of (f d) (in_range r d) b y)) ∙ e))) (λ n. n) in
        let first = ap (place_by (r ∷ rs)) (if_no (lowest_letter (among r f)) m (some_letter (among r f)) e) ∙ outside m (out m q.0 q.1) in
        let p = outside c (out c i k) in
        omega arith

-- of all its letters the first letter has the lowest place
pub first_least : (f : ℕ → Bool) (c : ℕ) → is_letter c ≡ true → f c ≡ true → place (first_letter f) ≤ place c
unfolding first_letter
first_least f c i k = first_place order f (letter_some f c i k) c i k

-- ---- of two sets with the same letters, whatever else is in them

same_first : (rs : List Range) (f g : ℕ → Bool) → ((c : ℕ) → (is_letter c && f c) ≡ (is_letter c && g c)) → first_by rs f ≡ first_by rs g
same_first [] f g same = λ i. lowest_from 256 0 (λ c. same c i)
same_first (r ∷ rs) f g same =
    let inner : (c : ℕ) → (is_letter c && among r f c) ≡ (is_letter c && among r g c)
    = λ c. sym (and_assoc (is_letter c) (f c) (in_range r c)) ∙ ap (λ (t : Bool). t && in_range r c) (same c) ∙ and_assoc (is_letter c) (g c) (in_range r c) in
    λ i. if some_from 256 0 (λ c. inner c i) then lowest_from 256 0 (λ c. inner c i) else same_first rs f g same i

-- there is a letter in both or in neither
pub some_alike : (f g : ℕ → Bool) → ((c : ℕ) → (is_letter c && f c) ≡ (is_letter c && g c)) → some_letter f ≡ some_letter g
some_alike f g same = λ i. some_from 256 0 (λ c. same c i)

-- and their first letters are one
pub first_alike : (f g : ℕ → Bool) → ((c : ℕ) → (is_letter c && f c) ≡ (is_letter c && g c)) → first_letter f ≡ first_letter g
unfolding first_letter
first_alike f g same = same_first order f g same

-- a set and its letters alone
pub letters_alike : (f g : ℕ → Bool) → ((c : ℕ) → g c ≡ (is_letter c && f c)) → (c : ℕ) → (is_letter c && g c) ≡ (is_letter c && f c)
letters_alike f g same c = ap (λ (t : Bool). is_letter c && t) (same c) ∙ and_self_left (is_letter c) (f c)

-- the first of none is 0
pub first_of_none : (f : ℕ → Bool) → ((c : ℕ) → f c ≡ false) → first_letter f ≡ 0
unfolding first_letter some_from lowest_from
first_of_none f none = λ i. first_letter (λ c. none c i)

-- ---- a range asked of a set s that holds letters only: g is the set of the range, and both has the letters of s in it

module _ (s g both : LetterSet) (letters : (c : ℕ) → has_letter s c ≡ true → is_letter c ≡ true) (meet : (c : ℕ) → has_letter both c ≡ (has_letter s c && has_letter g c))
    (r : Range) (rs : List Range) (range : (c : ℕ) → has_letter g c ≡ in_range r c) where
  same : (c : ℕ) → has_letter both c ≡ (is_letter c && among r (has_letter s) c)
  same c =
      meet c ∙ ap (λ (x : Bool). has_letter s c && x) (range c)
      ∙ only_letters (among r (has_letter s)) (λ d h. letters d (and_parts (has_letter s d) (in_range r d) h).0) c

  -- there are some, and the lowest of them is the first letter
  pub found : (c : ℕ) → LeastLetter both c → c ≡ first_by (r ∷ rs) (has_letter s)
  found c l =
      let p = and_parts (is_letter c) (among r (has_letter s) c) (sym (same c) ∙ l.here) in
      let some = letter_some (among r (has_letter s)) c p.0 p.1 in
      lowest_same both (among r (has_letter s)) same c l
      ∙ sym (if_yes (lowest_letter (among r (has_letter s))) (first_by rs (has_letter s)) (some_letter (among r (has_letter s))) some)

  -- there are none, and the ranges left decide
  pub passed : ((c : ℕ) → has_letter both c ≡ false) → first_by rs (has_letter s) ≡ first_by (r ∷ rs) (has_letter s)
  passed empty =
      by_test (some_letter (among r (has_letter s))) (λ e. let i = some_same both (among r (has_letter s)) same e in absurd (true≢false (sym i.here ∙ empty i.code)))
      (λ e. sym (if_no (lowest_letter (among r (has_letter s))) (first_by rs (has_letter s)) (some_letter (among r (has_letter s))) e))

-- ---- the set of a range of letters, tried letter by letter

abbrev pub differ : Bool → Bool → Bool
differ a b = if a then not b else b

same_of : (a b : Bool) → differ a b ≡ false → a ≡ b
same_of true true e = refl
same_of true false e = absurd (true≢false e)
same_of false true e = absurd (true≢false e)
same_of false false e = refl

module _ (r : Range) (s : LetterSet) (lacks : has_bit s.middle 31 ≡ false) (first : 32 ≤ r.from) (last : r.to ≤ 126) (tried : some_letter (λ c. differ (has_letter s c) (in_range r c)) ≡ false) where
  range_set : (c : ℕ) → has_letter s c ≡ in_range r c
  range_set c = same_test (has_letter s c) (in_range r c) (λ h. sym (same (is_letter_in s lacks c h)) ∙ h) (λ h. same (letter h) ∙ h)
    where
      same : is_letter c ≡ true → has_letter s c ≡ in_range r c
      same i =
          by_test (differ (has_letter s c) (in_range r c)) (λ e. absurd (true≢false (sym (letter_some (λ k. differ (has_letter s k) (in_range r k)) c i e) ∙ tried)))
          (same_of (has_letter s c) (in_range r c))

      letter : in_range r c ≡ true → is_letter c ≡ true
      letter h =
          let p = and_parts (leb r.from c) (leb c r.to) h in
          let low = leb-true r.from c p.0 in
          let high = leb-true c r.to p.1 in
          in_first 32 126 160 255 c (omega arith) (omega arith)

-- the three ranges: 26 slots from 65 on, 26 from 33 on, and 10 from 16 on
abbrev small_set : LetterSet
small_set = record { low = 0; middle = 2 ^ 27 - 2; high = 0 }

abbrev capital_set : LetterSet
capital_set = record { low = 2 ^ 59 - 2 ^ 33; middle = 0; high = 0 }

abbrev digit_set : LetterSet
digit_set = record { low = 2 ^ 26 - 2 ^ 16; middle = 0; high = 0 }

range_small : (c : ℕ) → has_letter small_set c ≡ in_range small c
unfolding some_from has_letter in_slot has_slot slot_of has_bit
range_small = range_set small small_set refl (omega arith) (omega arith) refl

range_capital : (c : ℕ) → has_letter capital_set c ≡ in_range capital c
unfolding some_from has_letter in_slot has_slot slot_of has_bit
range_capital = range_set capital capital_set refl (omega arith) (omega arith) refl

range_digit : (c : ℕ) → has_letter digit_set c ≡ in_range digit c
unfolding some_from has_letter in_slot has_slot slot_of has_bit
range_digit = range_set digit digit_set refl (omega arith) (omega arith) refl

pub range_at : (i : ℕ) (none : LetterSet) → i < 3 → (c : ℕ) → has_letter (get_or (small_set ∷ (capital_set ∷ (digit_set ∷ []))) i none) c ≡ in_range (get_or order i small) c
range_at zero none h = range_small
range_at (suc zero) none h = range_capital
range_at (suc (suc zero)) none h = range_digit
range_at (suc (suc (suc i))) none h = absurd (omega arith)

-- a range and those after it
pub range_and_rest : (i : ℕ) → i < 3 → drop i order ≡ get_or order i small ∷ drop (i + 1) order
range_and_rest i h = rw (add-one, drop-cons order i small)
