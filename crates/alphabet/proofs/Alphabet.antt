-- A set of letters, given by its test: whether it has one, and the lowest it has. Assumes nothing.
use mathlib.Core.Path.{◌≡◌, refl, sym, ap, ◌∙◌}
use mathlib.Core.Logic.{⊎_elim}
use mathlib.Core.Bool.{Bool, true, false, ◌&&◌, ◌||◌, and-true, and_assoc, false≢true}
use mathlib.Core.List.{List, [], ◌∷◌, ◌++◌}
use Prim.Native.Nat.{ℕ, zero, suc, ◌+◌, ◌≤◌, ◌<◌}
use native.Mathlib.Omega.{arith}
use lib.Dec.{leb}
use borrow.Author.Tests.{leb-true, le-leb}
use Rattle.std.specs.Prelude.{if◌then◌else◌}
use Rattle.basics.proofs.Tests.{and_parts, and_of, or_cases, or_left, or_right, by_equal}
use Rattle.alphabet.specs.Alphabet.{is_letter, all_letters, some_from, lowest_from, some_letter, lowest_letter}

-- c is the lowest of the n codes from k on that pass f
pub record Lowest (n k : ℕ) (f : ℕ → Bool) (c : ℕ) : Type 0 where
  pub low : k ≤ c
  pub high : c < k + n
  pub here : f c ≡ true
  pub none : (d : ℕ) → k ≤ d → d < c → f d ≡ false

lowest_from_is : (n k : ℕ) (f : ℕ → Bool) → some_from n k f ≡ true → Lowest n k f (lowest_from n k f)
unfolding some_from lowest_from
lowest_from_is zero k f h = absurd (false≢true h)
lowest_from_is (suc n) k f h = go (f k) refl h (lowest_from_is n (suc k) f)
  where
    go : (t : Bool) → f k ≡ t → (t || some_from n (suc k) f) ≡ true → (some_from n (suc k) f ≡ true → Lowest n (suc k) f (lowest_from n (suc k) f))
        → Lowest (suc n) k f (if t then k else lowest_from n (suc k) f)
    go true e q ih = record { low = omega arith; high = omega arith; here = e; none = λ d a b. absurd (omega arith) }
    go false e q ih =
        let r = ih q in
        let l = r.low in
        let m = r.high in
        record { low = omega arith; high = omega arith; here = r.here; none = λ d a b. by_equal k d (λ z. ap f (sym z) ∙ e) (λ z. r.none d (omega arith) b) }

some_from_is : (n k : ℕ) (f : ℕ → Bool) (c : ℕ) → k ≤ c → c < k + n → f c ≡ true → some_from n k f ≡ true
unfolding some_from
some_from_is zero k f c l m h = absurd (omega arith)
some_from_is (suc n) k f c l m h =
    let below = some_from_is n (suc k) f c in
    by_equal k c (λ z. or_left (f k) (some_from n (suc k) f) (ap f z ∙ h)) (λ z. or_right (f k) (some_from n (suc k) f) (below (omega arith) (omega arith) h))

-- ---- the codes of two ranges, such as those of the letters

pub in_first : (a b p q c : ℕ) → a ≤ c → c ≤ b → ((leb a c && leb c b) || (leb p c && leb c q)) ≡ true
in_first a b p q c l h = or_left (leb a c && leb c b) (leb p c && leb c q) (and_of (leb a c) (leb c b) (le-leb a c l) (le-leb c b h))

pub in_second : (a b p q c : ℕ) → p ≤ c → c ≤ q → ((leb a c && leb c b) || (leb p c && leb c q)) ≡ true
in_second a b p q c l h = or_right (leb a c && leb c b) (leb p c && leb c q) (and_of (leb p c) (leb c q) (le-leb p c l) (le-leb c q h))

-- cases by the range of a code
pub by_ranges : (P : Type 0) (a b p q c : ℕ) → ((leb a c && leb c b) || (leb p c && leb c q)) ≡ true → (a ≤ c → c ≤ b → P) → (p ≤ c → c ≤ q → P) → P
by_ranges P a b p q c i f g =
    ⊎_elim (λ h. let r = and_parts (leb a c) (leb c b) h in f (leb-true a c r.0) (leb-true c b r.1))
    (λ h. let r = and_parts (leb p c) (leb c q) h in g (leb-true p c r.0) (leb-true c q r.1))
    (or_cases (leb a c && leb c b) (leb p c && leb c q) i)

-- ---- the lowest letter

-- the lowest letter of a set that has one is a letter of it
pub lowest_letter_is : (f : ℕ → Bool) → some_letter f ≡ true → (is_letter (lowest_letter f) ≡ true) × (f (lowest_letter f) ≡ true)
lowest_letter_is f h = and_parts (is_letter (lowest_letter f)) (f (lowest_letter f)) (lowest_from_is 256 0 (λ c. is_letter c && f c) h).here

-- and no letter below it is
pub lowest_none : (f : ℕ → Bool) → some_letter f ≡ true → (c : ℕ) → is_letter c ≡ true → c < lowest_letter f → f c ≡ false
lowest_none f h c i l = sym (ap (λ (t : Bool). t && f c) i) ∙ (lowest_from_is 256 0 (λ c. is_letter c && f c) h).none c (omega arith) l

pub letter_below : (c : ℕ) → is_letter c ≡ true → c < 256
letter_below c i = by_ranges (c < 256) 32 126 160 255 c i (λ a b. omega arith) (λ a b. omega arith)

-- a set that holds a letter has one
pub letter_some : (f : ℕ → Bool) (c : ℕ) → is_letter c ≡ true → f c ≡ true → some_letter f ≡ true
letter_some f c i h = some_from_is 256 0 (λ c. is_letter c && f c) c (omega arith) (letter_below c i) (and_of (is_letter c) (f c) i h)

-- a text with one byte more
pub letters_more : (s : List ℕ) (c : ℕ) → all_letters (s ++ (c ∷ [])) ≡ (all_letters s && is_letter c)
letters_more [] c = and-true (is_letter c)
letters_more (b ∷ s) c = ap (λ (t : Bool). is_letter b && t) (letters_more s c) ∙ sym (and_assoc (is_letter b) (all_letters s) (is_letter c))
