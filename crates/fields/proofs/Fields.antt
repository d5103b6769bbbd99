-- The fields of a line: the fewest digits are the decimal number, and how long a line can be. Assumes nothing.
use mathlib.Core.Path.{◌≡◌, sym, ap, ◌∙◌, subst}
use mathlib.Core.List.{List, [], ◌∷◌, ◌++◌}
use Prim.Native.Nat.{ℕ, zero, suc, ◌+◌, ◌-◌, ◌/◌, ◌%◌, ◌^◌, ◌≤◌, ◌<◌}
use native.Mathlib.Nat.{pow-suc, mod-lt, mod-eq_of_lt, le-div_iff_mul-le, div-lt_iff_lt-mul, div-lt_self, pow-le-pow_right}
use native.Mathlib.Omega.{arith}
use lib.Dec.{eqb, ltb}
use lib.ListN.{length, length-append}
use borrow.Author.Tests.{lt-ltb, le-ltb, ne_eqb}
use Rattle.basics.specs.Bytes.{codes}
use Rattle.basics.proofs.Tests.{if_yes, if_no, if_either}
use Rattle.io.specs.Digits.{hex_digit_ascii, last_digits, IsDigitCount}
use Rattle.fields.specs.Fields.{digits_below, decimal, word, fields, result_line}

-- ---- decimal numbers

glyph_digit : (d : ℕ) → d < 10 → hex_digit_ascii d ≡ 48 + d
glyph_digit d h = rw (lt-ltb d 10 h)

-- one digit, and a digit after those of n / 10
one_digit : (f n : ℕ) → n < 10 → digits_below (suc f) n ≡ (48 + n) ∷ []
unfolding digits_below
one_digit f n h = if_yes ((48 + n) ∷ []) (digits_below f (n / 10) ++ ((48 + n % 10) ∷ [])) (ltb n 10) (lt-ltb n 10 h)

more_digits : (f n : ℕ) → 10 ≤ n → digits_below (suc f) n ≡ digits_below f (n / 10) ++ ((48 + n % 10) ∷ [])
unfolding digits_below
more_digits f n h = if_no ((48 + n) ∷ []) (digits_below f (n / 10) ++ ((48 + n % 10) ∷ [])) (ltb n 10) (le-ltb n 10 h)

tenth : (k n : ℕ) → n < 10 ^ suc k → n / 10 < 10 ^ k
tenth k n h = (div-lt_iff_lt-mul {k = 10} {x = n} {y = 10 ^ k} (omega arith)).1 (subst (λ (m : ℕ). n < m) (pow-suc 10 k) h)

tenth_from : (k n : ℕ) → 10 ^ suc k ≤ n → 10 ^ k ≤ n / 10
tenth_from k n h = (le-div_iff_mul-le {k = 10} {x = 10 ^ k} {y = n} (omega arith)).1 (subst (λ (m : ℕ). m ≤ n) (pow-suc 10 k) h)

fewest_digits : (f k n : ℕ) → n < f → IsDigitCount 10 1 n k → last_digits 10 k n ≡ digits_below f n
fewest_digits zero k n h w = absurd (omega arith)
fewest_digits (suc f) zero n h w = let l = w.0 in absurd (omega arith)
fewest_digits (suc f) (suc zero) n h w =
    let l : n < 10 = w.1 in
    let e : n % 10 ≡ n = mod-eq_of_lt l in
    ap (λ (d : ℕ). hex_digit_ascii d ∷ []) e ∙ ap (λ (g : ℕ). g ∷ []) (glyph_digit n l) ∙ sym (one_digit f n l)
fewest_digits (suc f) (suc (suc j)) n h w =
    let m : suc (suc j) - 1 ≡ suc j = omega arith in
    let l : 10 ^ suc j ≤ n = subst (λ (i : ℕ). 10 ^ i ≤ n) m (w.2 (omega arith)) in
    let t : 10 ≤ n = omega (arith, l, pow-le-pow_right {n = 10} (omega arith) {i = 1} {j = suc j} (omega arith)) in
    let s : n / 10 < n = div-lt_self {n = n} {k = 10} (omega arith) (omega arith) in
    let r : last_digits 10 (suc j) (n / 10) ≡ digits_below f (n / 10) =
    fewest_digits f (suc j) (n / 10) (omega arith) (omega arith, tenth (suc j) n w.1, λ q. subst (λ (i : ℕ). 10 ^ i ≤ n / 10) (omega arith) (tenth_from j n l)) in
    ap (λ (x : List ℕ). x ++ (hex_digit_ascii (n % 10) ∷ [])) r
    ∙ ap (λ (g : ℕ). digits_below f (n / 10) ++ (g ∷ [])) (glyph_digit (n % 10) (mod-lt n {m = 10} (omega arith)))
    ∙ sym (more_digits f n t)

pub fewest_decimal : (k n : ℕ) → IsDigitCount 10 1 n k → last_digits 10 k n ≡ decimal n
unfolding decimal
fewest_decimal k n w = fewest_digits (suc n) k n (omega arith) w

digits_short : (f k n : ℕ) → n < 10 ^ suc k → length (digits_below f n) ≤ suc k
unfolding digits_below
digits_short zero k n h = omega arith
digits_short (suc f) zero n h = rw (ap length (one_digit f n h)) (omega arith)
digits_short (suc f) (suc k) n h =
    if_either (λ (l : List ℕ). length l ≤ suc (suc k)) ((48 + n) ∷ []) (digits_below f (n / 10) ++ ((48 + n % 10) ∷ [])) (ltb n 10)
    (λ e. omega arith)
    (λ e. let r = digits_short f k (n / 10) (tenth (suc k) n h) in simp length-append (omega arith))

pub decimal_short : (k n : ℕ) → n < 10 ^ suc k → length (decimal n) ≤ suc k
unfolding decimal
decimal_short k n h = digits_short (suc n) k n h

-- ---- lines

pub line_short : (n : ℕ) (w : List ℕ) (k : ℕ) → n < 100000 → length w ≤ 7 → k < 256 → length (fields n w k) ≤ 18
line_short n w k h l m =
    let a = decimal_short 4 n h in
    let b = decimal_short 2 k (omega arith) in
    simp length-append (omega arith)

-- a refusal's line has its number
module _ (n refusal v p : ℕ) where
  pub line_refused : (refusal ≡ 0 → ⊥) → fields n (codes "refused") refusal ≡ result_line n refusal v p
  line_refused d = sym (if_no (fields n (word v) p) (fields n (codes "refused") refusal) (eqb refusal 0) (ne_eqb refusal 0 d))
