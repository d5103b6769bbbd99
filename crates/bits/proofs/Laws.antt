-- The laws of has_bit, one for each operation of the machine, at every place. The idea: a number is its half, doubled,
-- and its lowest digit, so that a law that the library does not have goes by recursion on the place. Assumes nothing.
use mathlib.Core.Path.{◌≡◌, refl, sym, ap, ap₂, ◌∙◌, subst}
use mathlib.Core.Logic.{⊎_elim}
use mathlib.Core.Bool.{Bool, true, false, not, ◌&&◌, ◌||◌, and-true, and_self, and_comm, true≢false}
use Prim.Native.Nat.{ℕ, zero, suc, ◌+◌, ◌-◌, ◌*◌, ◌/◌, ◌%◌, ◌^◌, ◌≤◌, ◌<◌, min, max}
use native.Mathlib.Nat.{add-zero, sub-zero, mul-one, mul_assoc, div-le_self, lt-div-mul-add, one-mul, mod-eq_of_lt, div-one, pow-suc, le_of_suc-le-suc, not-suc-le-zero, lt_of_le_of_lt}
use native.Mathlib.Omega.{arith}
use borrow.Author.Tests.{lt-ltb, eq-eqb}
use lib.Dec.{eqb, ltb, eqb-suc-suc, eqb-zero-suc, eqb-suc-zero, leb, leb-zero, leb-suc-zero, leb-suc-suc}
use lib.Pow.{pow_pos, pow-lt, shr-shr}
use lib.Bits.{bit_and, bit_or, bit_xor, and_mask}
use lib.Count.{count_trailing_zeros, under}
use Rattle.std.specs.Prelude.{if◌then◌else◌}
use Rattle.std.specs.Int.{bit_at}
use Rattle.std.proofs.lemmas.Nat.Bits.{bit_at_lowest, bit_at-suc, bit_at-zero, bit_at-lt, bit_at_and, bit_at_or, bit_at_xor, bit_at_above, same_from_bits_below}
use Rattle.basics.proofs.Tests.{le_or_lt}
use Rattle.bits.specs.Bits.{has_bit, Least}

-- ---- the lowest digit, and the half

has_0 : (m : ℕ) → has_bit m 0 ≡ eqb (m % 2) 1
unfolding has_bit
has_0 m = ap (λ (x : ℕ). eqb (x % 2) 1) (div-one m)

has_suc : (m i : ℕ) → has_bit m (suc i) ≡ has_bit (m / 2) i
unfolding has_bit
has_suc m i = ap (λ (d : ℕ). eqb d 1) (bit_at-suc m i)

abbrev digit : Bool → ℕ
digit true = 1
digit false = 0

-- the digit at i
has_digit : (m i : ℕ) → bit_at m i ≡ digit (has_bit m i)
unfolding has_bit
has_digit m i = of (bit_at m i) (bit_at-lt m i)
  where
    of : (d : ℕ) → d < 2 → d ≡ digit (eqb d 1)
    of zero h = refl
    of (suc zero) h = refl
    of (suc (suc d)) h = absurd (omega arith)

low_digit : (m : ℕ) → m % 2 ≡ digit (has_bit m 0)
low_digit m = sym (bit_at_lowest m) ∙ has_digit m 0

has_is : (m i : ℕ) {d : ℕ} → bit_at m i ≡ d → has_bit m i ≡ eqb d 1
unfolding has_bit
has_is m i e = ap (λ (d : ℕ). eqb d 1) e

-- both, from the half and the digit
parts : (m n : ℕ) (b : Bool) → m ≡ n * 2 + digit b → (has_bit m 0 ≡ b) × (m / 2 ≡ n)
parts m n true e = let o : m % 2 ≡ 1 = omega arith in (has_0 m ∙ eq-eqb (m % 2) 1 o, omega arith)
parts m n false e = let o : m % 2 ≡ 0 = omega arith in (has_0 m ∙ ap (λ (d : ℕ). eqb d 1) o, omega arith)

-- the digits above the lowest are those of the half
has_half : (m n : ℕ) (b : Bool) → m ≡ n * 2 + digit b → (j : ℕ) → has_bit m (suc j) ≡ has_bit n j
has_half m n b e j = has_suc m j ∙ ap (λ (x : ℕ). has_bit x j) (parts m n b e).1

-- ---- none, one, and the same

pub has_none : (j : ℕ) → has_bit 0 j ≡ false
unfolding has_bit
has_none j = ap (λ (d : ℕ). eqb d 1) (bit_at-zero j)

pub has_pow : (i j : ℕ) → has_bit (2 ^ i) j ≡ eqb i j
has_pow zero zero = has_0 1
has_pow zero (suc j) = has_suc 1 j ∙ has_none j ∙ sym (eqb-zero-suc j)
has_pow (suc i) zero = (parts (2 ^ suc i) (2 ^ i) false (omega (arith, pow-suc 2 i))).0 ∙ sym (eqb-suc-zero i)
has_pow (suc i) (suc j) = has_half (2 ^ suc i) (2 ^ i) false (omega (arith, pow-suc 2 i)) j ∙ has_pow i j ∙ sym (eqb-suc-suc i j)

-- two sets with the same members are the same number
pub ext : (k a b : ℕ) → a < 2 ^ k → b < 2 ^ k → ((j : ℕ) → j < k → has_bit a j ≡ has_bit b j) → a ≡ b
ext k a b p q f = same_from_bits_below k a b p q (λ j l. has_digit a j ∙ ap digit (f j l) ∙ sym (has_digit b j))

-- a set with no member is 0
pub no_member : (k m : ℕ) → m < 2 ^ k → ((j : ℕ) → j < k → has_bit m j ≡ false) → m ≡ 0
no_member k m h f = ext k m 0 h (pow_pos k) (λ j l. f j l ∙ sym (has_none j))

-- ---- or, and, not

pub has_or : (a b j : ℕ) → has_bit (bit_or a b) j ≡ (has_bit a j || has_bit b j)
has_or a b j = has_is (bit_or a b) j (bit_at_or a b j ∙ ap₂ max (has_digit a j) (has_digit b j)) ∙ one (has_bit a j) (has_bit b j)
  where
    one : (x y : Bool) → eqb (max (digit x) (digit y)) 1 ≡ (x || y)
    one true true = refl
    one true false = refl
    one false true = refl
    one false false = refl

pub has_and : (a b j : ℕ) → has_bit (bit_and a b) j ≡ (has_bit a j && has_bit b j)
has_and a b j = has_is (bit_and a b) j (bit_at_and a b j ∙ ap₂ min (has_digit a j) (has_digit b j)) ∙ one (has_bit a j) (has_bit b j)
  where
    one : (x y : Bool) → eqb (min (digit x) (digit y)) 1 ≡ (x && y)
    one true true = refl
    one true false = refl
    one false true = refl
    one false false = refl

-- the members of b are flipped in a
pub has_xor : (a b j : ℕ) → has_bit (bit_xor a b) j ≡ (if has_bit b j then not (has_bit a j) else has_bit a j)
has_xor a b j = has_is (bit_xor a b) j (bit_at_xor a b j ∙ ap₂ (λ (x y : ℕ). (x + y) % 2) (has_digit a j) (has_digit b j)) ∙ one (has_bit a j) (has_bit b j)
  where
    one : (x y : Bool) → eqb ((digit x + digit y) % 2) 1 ≡ (if y then not x else x)
    one true true = refl
    one true false = refl
    one false true = refl
    one false false = refl

halved : (k m : ℕ) → m < 2 ^ suc k → 2 ^ suc k - 1 - m ≡ (2 ^ k - 1 - m / 2) * 2 + digit (not (has_bit m 0))
halved k m h = omega (arith, pow-suc 2 k, low_digit m, other (has_bit m 0))
  where
    other : (b : Bool) → digit (not b) + digit b ≡ 1
    other true = refl
    other false = refl

-- the complement among k digits
pub has_not : (k m j : ℕ) → m < 2 ^ k → has_bit (2 ^ k - 1 - m) j ≡ (ltb j k && not (has_bit m j))
has_not zero m j h =
    let z : 2 ^ 0 - 1 - m ≡ 0 = omega arith in
    ap (λ (x : ℕ). has_bit x j) z ∙ has_none j ∙ ap (λ (b : Bool). b && not (has_bit m j)) (sym (leb-suc-zero j))
has_not (suc k) m zero h =
    (parts (2 ^ suc k - 1 - m) (2 ^ k - 1 - m / 2) (not (has_bit m 0)) (halved k m h)).0
    ∙ ap (λ (b : Bool). b && not (has_bit m 0)) (sym (lt-ltb 0 (suc k) (omega arith)))
has_not (suc k) m (suc j) h =
    has_half (2 ^ suc k - 1 - m) (2 ^ k - 1 - m / 2) (not (has_bit m 0)) (halved k m h) j ∙ has_not k (m / 2) j (omega (arith, pow-suc 2 k))
    ∙ sym (ap₂ (λ (a b : Bool). a && not b) (leb-suc-suc (suc j) k) (has_suc m j))

-- the k low digits
pub has_ones : (k j : ℕ) → has_bit (2 ^ k - 1) j ≡ ltb j k
has_ones k j =
    let z : 2 ^ k - 1 - 0 ≡ 2 ^ k - 1 = omega arith in
    ap (λ (x : ℕ). has_bit x j) (sym z) ∙ has_not k 0 j (pow_pos k) ∙ ap (λ (b : Bool). ltb j k && not b) (has_none j) ∙ and-true (ltb j k)

-- ---- how far the members go

-- no member at or past the number of digits
pub has_high : (k m j : ℕ) → m < 2 ^ k → k ≤ j → has_bit m j ≡ false
unfolding has_bit
has_high k m j h l = ap (λ (d : ℕ). eqb d 1) (bit_at_above m k j h l)

-- so a member is below it: the index of a table with a row for each place
pub member_below : (k m j : ℕ) → m < 2 ^ k → has_bit m j ≡ true → j < k
member_below k m j h e = ⊎_elim (λ p. absurd (true≢false (sym e ∙ has_high k m j h p))) (λ q. q) (le_or_lt k j)

-- and a number with no member from k on is below 2 ^ k
pub lt_of_high : (k m : ℕ) → m < 2 ^ 64 → ((j : ℕ) → k ≤ j → has_bit m j ≡ false) → m < 2 ^ k
unfolding has_bit
lt_of_high k m h f =
    let z : m / 2 ^ k ≡ 0 = no_member 64 (m / 2 ^ k) (lt_of_le_of_lt (div-le_self m (2 ^ k)) h) (λ j l. ap (λ (x : ℕ). eqb (x % 2) 1) (shr-shr m k j) ∙ f (k + j) (omega arith)) in
    omega (arith, lt-div-mul-add {a = m} {b = 2 ^ k} (pow_pos k), ap (λ (x : ℕ). x * 2 ^ k) z)

-- ---- the least member, and all but it

pub least_trailing : (k m : ℕ) → 0 < m → m < 2 ^ k → (count_trailing_zeros k m < k) × Least m (count_trailing_zeros k m)
unfolding count_trailing_zeros
least_trailing zero m p h = absurd (omega arith)
least_trailing (suc k) m p h = go (has_bit m 0) refl (low_digit m) (least_trailing k (m / 2))
  where
    t : ℕ
    t = count_trailing_zeros k (m / 2)

    above : has_bit m 0 ≡ false → Least (m / 2) t → (j : ℕ) → j < suc t → has_bit m j ≡ false
    above e l zero i = e
    above e l (suc j) i = has_suc m j ∙ l.none j (le_of_suc-le-suc i)

    go : (b : Bool) → has_bit m 0 ≡ b → m % 2 ≡ digit b → (0 < m / 2 → m / 2 < 2 ^ k → (t < k) × Least (m / 2) t)
        → (under (m % 2) t < suc k) × Least m (under (m % 2) t)
    go true e d half =
        subst (λ (x : ℕ). (under x t < suc k) × Least m (under x t)) (sym d)
        (omega arith, record { here = e; none = λ j l. absurd (not-suc-le-zero l) })
    go false e d half =
        let l = half (omega arith) (omega (arith, pow-suc 2 k)) in
        subst (λ (x : ℕ). (under x t < suc k) × Least m (under x t)) (sym d)
        (omega (arith, l.0), record { here = has_suc m t ∙ l.1.here; none = above e l.1 })

-- `m & (m - 1)`: below the least member t, m - 1 has each number, at t none, and above t what m has
pub has_rest : (t m j : ℕ) → Least m t → has_bit (bit_and m (m - 1)) j ≡ (has_bit m j && not (eqb t j))
has_rest t m j l = has_and m (m - 1) j ∙ go t m j l
  where
    go : (t m j : ℕ) → Least m t → (has_bit m j && has_bit (m - 1) j) ≡ (has_bit m j && not (eqb t j))
    go zero m zero l = ap (λ (b : Bool). has_bit m 0 && b) (parts (m - 1) (m / 2) false (omega (arith, low_digit m ∙ ap digit l.here))).0
    go zero m (suc j) l =
        ap₂ ◌&&◌ (has_suc m j) (has_half (m - 1) (m / 2) false (omega (arith, low_digit m ∙ ap digit l.here)) j) ∙ and_self (has_bit (m / 2) j)
        ∙ sym (ap₂ (λ (a b : Bool). a && not b) (has_suc m j) (eqb-zero-suc j) ∙ and-true (has_bit (m / 2) j))
    go (suc t) m zero l =
        let e = l.none 0 (omega arith) in
        ap (λ (b : Bool). b && has_bit (m - 1) 0) e ∙ ap (λ (b : Bool). b && not (eqb (suc t) 0)) (sym e)
    go (suc t) m (suc j) l =
        let half : (m - 1) / 2 ≡ m / 2 - 1 = omega (arith, low_digit m ∙ ap digit (l.none 0 (omega arith))) in
        let k : Least (m / 2) t = record { here = sym (has_suc m t) ∙ l.here; none = λ i h. sym (has_suc m i) ∙ l.none (suc i) (omega arith) } in
        ap₂ ◌&&◌ (has_suc m j) (has_suc (m - 1) j ∙ ap (λ (x : ℕ). has_bit x j) half) ∙ go t (m / 2) j k
        ∙ sym (ap₂ (λ (a b : Bool). a && not b) (has_suc m j) (eqb-suc-suc t j))

-- ---- what the code computes

-- `1 << i`
pub one_shl : (i : ℕ) → i < 64 → (1 * 2 ^ i) % 2 ^ 64 ≡ 2 ^ i
one_shl i h = ap (λ (x : ℕ). x % 2 ^ 64) (one-mul (2 ^ i)) ∙ mod-eq_of_lt (pow-lt h)

-- `m | (1 << i)`
pub has_with : (m i j : ℕ) → i < 64 → has_bit (bit_or m ((1 * 2 ^ i) % 2 ^ 64)) j ≡ (has_bit m j || eqb i j)
has_with m i j h =
    has_or m ((1 * 2 ^ i) % 2 ^ 64) j ∙ ap (λ (b : Bool). has_bit m j || b) (ap (λ (x : ℕ). has_bit x j) (one_shl i h) ∙ has_pow i j)

-- `a & !b`
pub has_minus : (a b j : ℕ) → a < 2 ^ 64 → b < 2 ^ 64 → has_bit (bit_and a (2 ^ 64 - 1 - b)) j ≡ (has_bit a j && not (has_bit b j))
has_minus a b j p q =
    has_and a (2 ^ 64 - 1 - b) j ∙ ap (λ (t : Bool). has_bit a j && t) (has_not 64 b j q)
    ∙ ⊎_elim (λ h. simp (has_high 64 a j p h)) (λ h. simp (lt-ltb j 64 h)) (le_or_lt 64 j)

twice : (m k : ℕ) → m * 2 ^ suc k ≡ (m * 2 ^ k) * 2 + 0
twice m k = ap (λ (x : ℕ). m * x) (pow-suc 2 k) ∙ sym (mul_assoc m (2 ^ k) 2) ∙ sym (add-zero (m * 2 ^ k * 2))

-- `m << k`: in 64 digits, those of m from k on
has_times : (m k j : ℕ) → has_bit (m * 2 ^ k) j ≡ (leb k j && has_bit m (j - k))
has_times m zero j = ap (λ (x : ℕ). has_bit x j) (mul-one m) ∙ sym (ap₂ (λ (b : Bool) (i : ℕ). b && has_bit m i) (leb-zero j) (sub-zero j))
has_times m (suc k) zero = (parts (m * 2 ^ suc k) (m * 2 ^ k) false (twice m k)).0 ∙ sym (ap (λ (b : Bool). b && has_bit m (0 - suc k)) (leb-suc-zero k))
has_times m (suc k) (suc j) =
    has_half (m * 2 ^ suc k) (m * 2 ^ k) false (twice m k) j ∙ has_times m k j
    ∙ sym (ap₂ (λ (b : Bool) (i : ℕ). b && has_bit m i) (leb-suc-suc k j) (omega arith))

pub has_shl : (m k j : ℕ) → has_bit ((m * 2 ^ k) % 2 ^ 64) j ≡ (leb k j && (ltb j 64 && has_bit m (j - k)))
has_shl m k j =
    ap (λ (x : ℕ). has_bit x j) (sym (and_mask (m * 2 ^ k) 64)) ∙ has_and (m * 2 ^ k) (2 ^ 64 - 1) j ∙ ap₂ ◌&&◌ (has_times m k j) (has_ones 64 j)
    ∙ turn (leb k j) (has_bit m (j - k)) (ltb j 64)
  where
    turn : (a b c : Bool) → ((a && b) && c) ≡ (a && (c && b))
    turn true b c = and_comm b c
    turn false b c = refl
