-- The greatest of sums with a sign. `better` joins the best of some readings with that of others in any order, and a credit that all
-- have can be added before or after; and sums compare as they do when all are raised by as much. Assumes nothing.
use mathlib.Core.Path.{◌≡◌, refl, sym, ap, ap₂, ◌∙◌, subst}
use mathlib.Core.Logic.{⊎_elim}
use mathlib.Core.Bool.{Bool, true, false, false≢true}
use Prim.Native.Nat.{ℕ, zero, suc, ◌+◌, ◌*◌, ◌≤◌, max}
use native.Mathlib.Nat.{mul-add}
use native.Mathlib.Omega.{arith}
use lib.Dec.{le→leb}
use lib.IntN.{ℤ, pos, negsuc, sub_ℕ, nat_abs, ◌+ℤ◌, +ℤ_assoc, +ℤ_idl, pos-ne-negsuc}
use lib.Signed.{◌≤ℤ◌, le_z_yes}
use Rattle.basics.proofs.Tests.{le_or_lt}
use Rattle.basics.proofs.Folds.{max_none, max_comm, max_assoc}
use Rattle.basics.proofs.Integers.{sub_pos, sub_neg, sub_adds, raised, as_raised}
use Rattle.graph.specs.Built.{lowered}
use Rattle.graph.specs.Readings.{Best, no_reading, earns, greater, better, added, mark_of}

-- ---- better

pub better_none : (x : Best) → better x no_reading ≡ x
better_none no_reading = refl
better_none (earns x) = refl

greater_comm : (x y : ℤ) → greater x y ≡ greater y x
greater_comm (pos a) (pos b) = ap pos (max_comm a b)
greater_comm (pos a) (negsuc b) = refl
greater_comm (negsuc a) (pos b) = refl
greater_comm (negsuc a) (negsuc b) = ap negsuc (omega arith)

greater_assoc : (x y z : ℤ) → greater (greater x y) z ≡ greater x (greater y z)
greater_assoc (pos a) (pos b) (pos c) = ap pos (max_assoc a b c)
greater_assoc (pos a) (pos b) (negsuc c) = refl
greater_assoc (pos a) (negsuc b) (pos c) = refl
greater_assoc (pos a) (negsuc b) (negsuc c) = refl
greater_assoc (negsuc a) (pos b) (pos c) = refl
greater_assoc (negsuc a) (pos b) (negsuc c) = refl
greater_assoc (negsuc a) (negsuc b) (pos c) = refl
greater_assoc (negsuc a) (negsuc b) (negsuc c) = ap negsuc (omega arith)

pub better_comm : (x y : Best) → better x y ≡ better y x
better_comm no_reading y = sym (better_none y)
better_comm (earns x) no_reading = refl
better_comm (earns x) (earns y) = ap earns (greater_comm x y)

pub better_assoc : (x y z : Best) → better (better x y) z ≡ better x (better y z)
better_assoc no_reading y z = refl
better_assoc (earns x) no_reading z = refl
better_assoc (earns x) (earns y) no_reading = refl
better_assoc (earns x) (earns y) (earns z) = ap earns (greater_assoc x y z)

-- ---- numbers that are raised by as much

sub_greater : (m a b : ℕ) → greater (sub_ℕ a m) (sub_ℕ b m) ≡ sub_ℕ (max a b) m
sub_greater m a b =
    ⊎_elim
    (λ p. ⊎_elim
    (λ q. ap₂ greater (sub_pos a m p) (sub_pos b m q) ∙ ap pos (omega arith) ∙ sym (sub_pos (max a b) m (omega arith)))
    (λ q. ap₂ greater (sub_pos a m p) (sub_neg b m q) ∙ ap pos (omega arith) ∙ sym (sub_pos (max a b) m (omega arith)))
    (le_or_lt m b))
    (λ p. ⊎_elim
    (λ q. ap₂ greater (sub_neg a m p) (sub_pos b m q) ∙ ap pos (omega arith) ∙ sym (sub_pos (max a b) m (omega arith)))
    (λ q. ap₂ greater (sub_neg a m p) (sub_neg b m q) ∙ ap negsuc (omega arith) ∙ sym (sub_neg (max a b) m (omega arith)))
    (le_or_lt m b))
    (le_or_lt m a)

-- ---- with a credit

greater_adds : (c x y : ℤ) → c +ℤ greater x y ≡ greater (c +ℤ x) (c +ℤ y)
greater_adds c x y =
    ap₂ ◌+ℤ◌ c_is (ap₂ greater x_is y_is ∙ sub_greater m a b) ∙ sub_adds m m k (max a b)
    ∙ ap (λ (n : ℕ). sub_ℕ n (m + m)) (omega arith) ∙ sym (sub_greater (m + m) (k + a) (k + b))
    ∙ sym (ap₂ greater (ap₂ ◌+ℤ◌ c_is x_is ∙ sub_adds m m k a) (ap₂ ◌+ℤ◌ c_is y_is ∙ sub_adds m m k b))
  where
    m : ℕ
    m = nat_abs c + (nat_abs x + nat_abs y)

    k : ℕ
    k = raised m c

    a : ℕ
    a = raised m x

    b : ℕ
    b = raised m y

    c_is : c ≡ sub_ℕ k m
    c_is = as_raised m c (omega arith)

    x_is : x ≡ sub_ℕ a m
    x_is = as_raised m x (omega arith)

    y_is : y ≡ sub_ℕ b m
    y_is = as_raised m y (omega arith)

pub added_better : (c : ℤ) (x y : Best) → added c (better x y) ≡ better (added c x) (added c y)
added_better c no_reading y = refl
added_better c (earns x) no_reading = refl
added_better c (earns x) (earns y) = ap earns (greater_adds c x y)

pub added_twice : (a c : ℤ) (x : Best) → added a (added c x) ≡ added (a +ℤ c) x
added_twice a c no_reading = refl
added_twice a c (earns x) = ap earns (sym (+ℤ_assoc a c x))

pub added_nothing : (x : Best) → added (pos 0) x ≡ x
added_nothing no_reading = refl
added_nothing (earns x) = ap earns (+ℤ_idl x)

-- ---- one that is at least as good

-- some reading of those earns c, or more
abbrev pub Above : ℤ → Best → Type 0
Above c x = better (earns c) x ≡ x

pub above_left : (c : ℤ) (x y : Best) → Above c x → Above c (better x y)
above_left c x y h = sym (better_assoc (earns c) x y) ∙ ap (λ (z : Best). better z y) h

pub above_right : (c : ℤ) (x y : Best) → Above c y → Above c (better x y)
above_right c x y h = ap (better (earns c)) (better_comm x y) ∙ above_left c y x h ∙ better_comm y x

pub above_added : (a c : ℤ) (x : Best) → Above c x → Above (a +ℤ c) (added a x)
above_added a c x h = sym (added_better a (earns c) x) ∙ ap (added a) h

greater_is : (c m : ℤ) → greater c m ≡ m → c ≤ℤ m
greater_is (pos a) (pos b) h = let e = ap nat_abs h in le_z_yes (le→leb a b (omega arith))
greater_is (pos a) (negsuc b) h = absurd (pos-ne-negsuc a b h)
greater_is (negsuc a) (pos b) h = le_z_yes tt
greater_is (negsuc a) (negsuc b) h = let e = ap nat_abs h in le_z_yes (le→leb b a (omega arith))

abbrev there : Best → Bool
there no_reading = false
there (earns m) = true

pub none_best : (m : ℤ) → no_reading ≡ earns m → ⊥
none_best m h = false≢true (ap there h)

-- so there is a greatest, which is no less
pub above_most : (c : ℤ) (x : Best) → Above c x → (m : ℤ) × (x ≡ earns m) × (c ≤ℤ m)
above_most c no_reading h = absurd (none_best c (sym h))
above_most c (earns m) h = (m, refl, greater_is c m (ap mark_of h))

-- what holds of both holds of the better one
pub either_better : (P : Best → Type 0) (x y : Best) → P x → P y → P (better x y)
either_better P no_reading y p q = q
either_better P (earns x) no_reading p q = p
either_better P (earns x) (earns y) p q = one x y p q
  where
    one : (x y : ℤ) → P (earns x) → P (earns y) → P (earns (greater x y))
    one (pos a) (pos b) p q = ⊎_elim (λ l. subst (λ (n : ℕ). P (earns (pos n))) (omega arith) q) (λ l. subst (λ (n : ℕ). P (earns (pos n))) (omega arith) p) (le_or_lt a b)
    one (pos a) (negsuc b) p q = p
    one (negsuc a) (pos b) p q = q
    one (negsuc a) (negsuc b) p q = ⊎_elim (λ l. subst (λ (n : ℕ). P (earns (negsuc n))) (omega arith) p) (λ l. subst (λ (n : ℕ). P (earns (negsuc n))) (omega arith) q) (le_or_lt a b)

-- ---- sums of raised credits

pub lowered_adds : (m n a b : ℕ) → lowered m a +ℤ lowered n b ≡ lowered (m + n) (a + b)
lowered_adds m n a b = sub_adds (9 * m) (9 * n) a b ∙ ap (sub_ℕ (a + b)) (sym (mul-add 9 m n))

-- the best of some sums is their greatest when raised, where 0 stands for no sum and suc x for one that is x when raised
abbrev pub best_sum : ℕ → ℕ → Best
best_sum n zero = no_reading
best_sum n (suc x) = earns (lowered n x)

pub best_sums : (n x y : ℕ) → best_sum n (max x y) ≡ better (best_sum n x) (best_sum n y)
best_sums n zero y = ap (best_sum n) (max_comm 0 y ∙ max_none y)
best_sums n (suc x) zero = ap (best_sum n) (max_none (suc x))
best_sums n (suc x) (suc y) = let e : max (suc x) (suc y) ≡ suc (max x y) = omega arith in ap (best_sum n) e ∙ sym (ap earns (sub_greater (9 * n) x y))

-- a credit from -9 to 9 is at most 18 when raised
pub raised_low : (x : ℕ) → nat_abs (lowered 1 x) ≤ 9 → x ≤ 18
raised_low x h = ⊎_elim (λ l. let e = ap nat_abs (sub_pos x 9 l) in omega arith) (λ l. omega arith) (le_or_lt 9 x)

-- and a sum of n such credits is at most 9 n on either side of 0
pub lowered_low : (n x : ℕ) → x ≤ 18 * n → nat_abs (lowered n x) ≤ 9 * n
lowered_low n x h =
    ⊎_elim (λ l. let e = ap nat_abs (sub_pos x (9 * n) l) in omega arith) (λ l. let e = ap nat_abs (sub_neg x (9 * n) l) in omega arith) (le_or_lt (9 * n) x)
