-- Integers as differences of two numbers, which is what decides about them by numbers without a sign. Assumes nothing.
use mathlib.Core.Path.{◌≡◌, refl, sym, ap, ap₂, ◌∙◌}
use mathlib.Core.Bool.{Bool, cond}
use Prim.Native.Nat.{ℕ, zero, suc, ◌+◌, ◌-◌, ◌≤◌, ◌<◌, zero-le}
use native.Mathlib.Omega.{arith}
use lib.IntN.{ℤ, pos, negsuc, sub_ℕ, neg_ℤ, nat_abs, ◌+ℤ◌, ◌-ℤ◌, +ℤ_assoc, +ℤ_comm, neg_ℤ-+ℤ, pos-+ℤ-pos}
use borrow.Author.Tests.{le-ltb, lt-ltb}

pub sub_pos : (a b : ℕ) → b ≤ a → sub_ℕ a b ≡ pos (a - b)
sub_pos a b h = ap (λ (t : Bool). cond t (negsuc (b - suc a)) (pos (a - b))) (le-ltb a b h)

pub sub_neg : (a b : ℕ) → a < b → sub_ℕ a b ≡ negsuc (b - suc a)
sub_neg a b h = ap (λ (t : Bool). cond t (negsuc (b - suc a)) (pos (a - b))) (lt-ltb a b h)

pub sub_diff : (a b : ℕ) → pos a -ℤ pos b ≡ sub_ℕ a b
sub_diff a zero = ap pos (omega arith) ∙ sym (sub_pos a 0 zero-le)
sub_diff a (suc b) = refl

pub sub_adds : (m n a b : ℕ) → sub_ℕ a m +ℤ sub_ℕ b n ≡ sub_ℕ (a + b) (m + n)
sub_adds m n a b =
    ap₂ ◌+ℤ◌ (sym (sub_diff a m)) (sym (sub_diff b n))
    ∙ +ℤ_assoc (pos a) (neg_ℤ (pos m)) (pos b +ℤ neg_ℤ (pos n))
    ∙ ap (λ (z : ℤ). pos a +ℤ z) (sym (+ℤ_assoc (neg_ℤ (pos m)) (pos b) (neg_ℤ (pos n))) ∙ ap (λ (z : ℤ). z +ℤ neg_ℤ (pos n)) (+ℤ_comm (neg_ℤ (pos m)) (pos b)) ∙ +ℤ_assoc (pos b) (neg_ℤ (pos m)) (neg_ℤ (pos n)))
    ∙ sym (+ℤ_assoc (pos a) (pos b) (neg_ℤ (pos m) +ℤ neg_ℤ (pos n)))
    ∙ ap₂ ◌+ℤ◌ (pos-+ℤ-pos a b) (sym (neg_ℤ-+ℤ (pos m) (pos n)) ∙ ap neg_ℤ (pos-+ℤ-pos m n))
    ∙ sub_diff (a + b) (m + n)

-- every number is one that was raised by m, for each m that is large enough
abbrev pub raised : ℕ → ℤ → ℕ
raised m (pos n) = n + m
raised m (negsuc n) = m - suc n

pub as_raised : (m : ℕ) (x : ℤ) → nat_abs x ≤ m → x ≡ sub_ℕ (raised m x) m
as_raised m (pos n) l = ap pos (omega arith) ∙ sym (sub_pos (n + m) m (omega arith))
as_raised m (negsuc n) l = ap negsuc (omega arith) ∙ sym (sub_neg (m - suc n) m (omega arith))
