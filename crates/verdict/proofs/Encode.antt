-- Things told apart by n pairs of digits below b are at most b ^ (2 n): the digits are written as one number below that
-- power, and such numbers are counted by the pigeonhole law. Assumes nothing.
use mathlib.Core.Path.{◌≡◌, sym, ap, ◌∙◌}
use mathlib.Core.List.{List}
use Prim.Native.Nat.{ℕ, zero, suc, ◌+◌, ◌*◌, ◌/◌, ◌%◌, ◌^◌, ◌≤◌, ◌<◌}
use native.Mathlib.Nat.{le_refl, not-suc-le-zero, pow-zero, pow-suc}
use native.Mathlib.Omega.{arith}
use lib.Arith.{digits_lt, digits_div, digits_mod}
use lib.ListN.{length}
use Rattle.basics.specs.Lists.{Each, Apart}
use Rattle.basics.proofs.Tests.{by_equal}
use Rattle.basics.proofs.Lists.{pigeon}

abbrev encode : ℕ → (ℕ → ℕ × ℕ) → ℕ → ℕ
encode b f zero = 0
encode b f (suc n) = (encode b f n * b + (f n).0) * b + (f n).1

abbrev pub Below : ℕ → (ℕ → ℕ × ℕ) → Type 0
Below b f = (q : ℕ) → ((f q).0 < b) × ((f q).1 < b)

encode_lt : (b : ℕ) (f : ℕ → ℕ × ℕ) (n : ℕ) → Below b f → encode b f n < b ^ (2 * n)
encode_lt b f zero h = rw pow-zero (le_refl 1)
encode_lt b f (suc n) h =
    let e : 2 * suc n ≡ suc (suc (2 * n)) = omega arith in
    rw (e, pow-suc b (suc (2 * n)), pow-suc b (2 * n)) (digits_lt (digits_lt (encode_lt b f n h) (h n).0) (h n).1)

digits_same : (x y : ℕ) {b r s : ℕ} → r < b → s < b → x * b + r ≡ y * b + s → (x ≡ y) × (r ≡ s)
digits_same x y {b} h k e =
    (sym (digits_div x h) ∙ ap (λ z. z / b) e ∙ digits_div y k, sym (digits_mod x h) ∙ ap (λ z. z % b) e ∙ digits_mod y k)

encode_same : (b : ℕ) (f g : ℕ → ℕ × ℕ) (n : ℕ) → Below b f → Below b g → encode b f n ≡ encode b g n → (q : ℕ) → q < n → f q ≡ g q
encode_same b f g zero h k e q l = absurd (not-suc-le-zero l)
encode_same b f g (suc n) h k e q l =
    let d = digits_same (encode b f n * b + (f n).0) (encode b g n * b + (g n).0) (h n).1 (k n).1 e in
    let c = digits_same (encode b f n) (encode b g n) (h n).0 (k n).0 d.0 in
    let before = encode_same b f g n h k c.0 q in
    by_equal q n (λ z. rw z (λ i. (c.1 i, d.1 i))) (λ z. before (omega arith))

pub pigeon_digits : {A : Type 0} (digits : A → ℕ → ℕ × ℕ) (P : A → Type 0) (b n : ℕ) → ((x : A) → P x → Below b (digits x))
    → ((x y : A) → P x → P y → ((q : ℕ) → q < n → digits x q ≡ digits y q) → x ≡ y) → (xs : List A) → Apart xs → Each P xs → length xs ≤ b ^ (2 * n)
pigeon_digits digits P b n low told = pigeon (λ x. encode b (digits x) n) P (b ^ (2 * n)) (λ x p. encode_lt b (digits x) n (low x p))
    (λ x y p q e. told x y p q (encode_same b (digits x) (digits y) n (low x p) (low y q) e))
