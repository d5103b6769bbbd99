-- What a test that passes says of its parts, and cases by a test. Assumes nothing.
use mathlib.Core.Path.{◌≡◌, refl, sym, ap, ap₂, ◌∙◌}
use mathlib.Core.Logic.{◌⊎◌, inl, inr, ⊎_elim}
use mathlib.Core.Bool.{Bool, true, false, not, ◌&&◌, ◌||◌, and-true, and-false, and_comm, or-false, false≢true, true≢false}
use Prim.Native.Nat.{ℕ, zero, suc, ◌+◌, ◌≤◌, ◌<◌, zero-le, suc-le-suc}
use native.Mathlib.Omega.{arith}
use lib.Dec.{eqb, ltb, leb}
use borrow.Author.Tests.{ltb-true, lt-ltb, le-ltb, le-leb, lt-leb, eq-eqb, ne_eqb}
use Rattle.std.specs.Prelude.{if◌then◌else◌}

-- ---- and, or

pub and_parts : (a b : Bool) → (a && b) ≡ true → (a ≡ true) × (b ≡ true)
and_parts true b e = (refl, e)
and_parts false b e = absurd (false≢true e)

pub and_of : (a b : Bool) → a ≡ true → b ≡ true → (a && b) ≡ true
and_of true b p q = q
and_of false b p q = p

-- what follows a test matters only where the test passes
pub and_when : (a b c : Bool) → (a ≡ true → b ≡ c) → (a && b) ≡ (a && c)
and_when true b c e = e refl
and_when false b c e = refl

pub or_cases : (a b : Bool) → (a || b) ≡ true → (a ≡ true) ⊎ (b ≡ true)
or_cases true b e = inl refl
or_cases false b e = inr e

pub or_left : (a b : Bool) → a ≡ true → (a || b) ≡ true
or_left true b e = refl
or_left false b e = absurd (false≢true e)

pub or_right : (a b : Bool) → b ≡ true → (a || b) ≡ true
or_right true b e = refl
or_right false b e = e

pub or_parts : (a b : Bool) → (a || b) ≡ false → (a ≡ false) × (b ≡ false)
or_parts true b e = absurd (true≢false e)
or_parts false b e = (refl, e)

-- two tests that pass together are one
pub same_test : (a b : Bool) → (a ≡ true → b ≡ true) → (b ≡ true → a ≡ true) → a ≡ b
same_test true b f g = sym (f refl)
same_test false true f g = g refl
same_test false false f g = refl

-- ---- cases

pub by_test {ℓ} : {P : Type ℓ} (t : Bool) → (t ≡ true → P) → (t ≡ false → P) → P
by_test true y n = y refl
by_test false y n = n refl

pub if_yes : {A : Type 0} (a b : A) (t : Bool) → t ≡ true → (if t then a else b) ≡ a
if_yes a b true e = refl
if_yes a b false e = absurd (false≢true e)

pub if_no : {A : Type 0} (a b : A) (t : Bool) → t ≡ false → (if t then a else b) ≡ b
if_no a b true e = absurd (true≢false e)
if_no a b false e = refl

-- a choice between what is the same
pub if_same : {A : Type 0} (t : Bool) {x y a b : A} → (t ≡ true → x ≡ y) → (t ≡ false → a ≡ b) → ◌≡◌ {A = A} (if t then x else a) (if t then y else b)
if_same true f g = f refl
if_same false f g = g refl

-- what holds of both values holds of the one chosen
pub if_either {ℓ} : {A : Type 0} (P : A → Type ℓ) (a b : A) (t : Bool) → (t ≡ true → P a) → (t ≡ false → P b) → P (if t then a else b)
if_either P a b true y n = y refl
if_either P a b false y n = n refl

pub le_or_lt : (a b : ℕ) → (a ≤ b) ⊎ (b < a)
le_or_lt zero b = inl zero-le
le_or_lt (suc a) zero = inr (suc-le-suc zero-le)
le_or_lt (suc a) (suc b) = ⊎_elim (λ p. inl (suc-le-suc p)) (λ q. inr (suc-le-suc q)) (le_or_lt a b)

pub by_equal {ℓ} : {P : Type ℓ} (a b : ℕ) → (a ≡ b → P) → ((a ≡ b → ⊥) → P) → P
by_equal a b y n =
    ⊎_elim (λ h. ⊎_elim (λ k. y (omega arith)) (λ k. n (λ z. omega arith)) (le_or_lt b a))
    (λ h. n (λ z. omega arith)) (le_or_lt a b)

pub neither_less : (a b : ℕ) → (a < b → ⊥) → (b < a → ⊥) → a ≡ b
neither_less a b p q = ⊎_elim (λ h. ⊎_elim (λ k. omega arith) (λ k. absurd (p k)) (le_or_lt b a)) (λ h. absurd (q h)) (le_or_lt a b)

-- what is said of two tests together is said of them in either order
pub both_swap : {A : Type 0} (said : (ℕ → Bool) → A) (f g : ℕ → Bool) → said (λ c. f c && g c) ≡ said (λ c. g c && f c)
both_swap said f g = ap said (λ i c. and_comm (f c) (g c) i)

-- ---- tests of numbers

pub same_less : (a b c d : ℕ) → (a < b → c < d) → (c < d → a < b) → ltb a b ≡ ltb c d
same_less a b c d f g = same_test (ltb a b) (ltb c d) (λ e. lt-ltb c d (f (ltb-true a b e))) (λ e. lt-ltb a b (g (ltb-true c d e)))

pub not_less : (a b : ℕ) → not (ltb a b) ≡ leb b a
not_less a b = ⊎_elim (λ h. ap not (le-ltb a b h) ∙ sym (le-leb b a h)) (λ h. ap not (lt-ltb a b h) ∙ sym (lt-leb b a h)) (le_or_lt b a)

-- below the next number is up to the number
pub below_next : (a b c : ℕ) → b ≡ c + 1 → ltb a b ≡ leb a c
below_next a b c e =
    ⊎_elim (λ h. lt-ltb a b (omega arith) ∙ sym (le-leb a c h)) (λ h. le-ltb a b (omega arith) ∙ sym (lt-leb a c h)) (le_or_lt a c)

pub equal_added : (k a b : ℕ) → eqb (k + a) (k + b) ≡ eqb a b
equal_added k a b =
    by_equal a b (λ z. eq-eqb (k + a) (k + b) (ap (λ (n : ℕ). k + n) z) ∙ sym (eq-eqb a b z))
    (λ d. ne_eqb (k + a) (k + b) (λ z. d (omega arith)) ∙ sym (ne_eqb a b d))

-- the numbers below b that pass f, and b if it does
pub one_further : (f : ℕ → Bool) (b j : ℕ) → ((ltb j b && f j) || (f b && eqb b j)) ≡ (ltb j (b + 1) && f j)
one_further f b j =
    by_equal b j
    (λ z.
    ap₂ (λ (x y : Bool). (x && f j) || y) (le-ltb j b (omega arith)) (ap₂ ◌&&◌ (ap f z) (eq-eqb b j z) ∙ and-true (f j)) ∙ sym (ap (λ (x : Bool). x && f j) (lt-ltb j (b + 1) (omega arith))))
    (λ d.
    ap (λ (x : Bool). (ltb j b && f j) || (f b && x)) (ne_eqb b j d) ∙ ap (λ (x : Bool). (ltb j b && f j) || x) (and-false (f b)) ∙ or-false (ltb j b && f j)
    ∙ ap (λ (x : Bool). x && f j) (same_less j b j (b + 1) (λ h. omega arith) (λ h. omega arith)))
