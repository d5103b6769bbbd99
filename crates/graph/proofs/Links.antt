-- Numbers of links: whether there is one, whether there are two or more, and what a built pattern says of both. Assumes nothing.
use mathlib.Core.Path.{◌≡◌, refl, ap}
use mathlib.Core.Bool.{Bool, true, false, ◌&&◌, ◌||◌, false≢true, true≢false}
use mathlib.Core.List.{List}
use Prim.Native.Nat.{ℕ, zero, suc, ◌+◌, ◌*◌, ◌≤◌, zero-le}
use native.Mathlib.Nat.{le_refl, zero-add}
use native.Mathlib.Omega.{arith}
use lib.ListN.{get_or}
use Rattle.std.specs.Prelude.{if◌then◌else◌}
use Rattle.bits.specs.Bits.{has_bit}
use Rattle.graph.specs.Graph.{some, several, next, doubled}
use Rattle.graph.specs.Built.{graph_of_built}
use Rattle.graph.specs.declared.Built.{Built}

pub some_of : (n : ℕ) → some n ≡ true → 1 ≤ n
some_of zero e = absurd (false≢true e)
some_of (suc n) e = omega arith

pub of_some : (n : ℕ) → 1 ≤ n → some n ≡ true
of_some zero l = absurd (omega arith)
of_some (suc n) l = refl

pub none_of : (n : ℕ) → some n ≡ false → n ≡ 0
none_of zero e = refl
none_of (suc n) e = absurd (true≢false e)

pub several_of : (n : ℕ) → several n ≡ true → 2 ≤ n
several_of zero e = absurd (false≢true e)
several_of (suc zero) e = absurd (false≢true e)
several_of (suc (suc n)) e = omega arith

pub of_several : (n : ℕ) → 2 ≤ n → several n ≡ true
of_several zero l = absurd (omega arith)
of_several (suc zero) l = absurd (omega arith)
of_several (suc (suc n)) l = refl

pub several_some : (n : ℕ) → several n ≡ true → some n ≡ true
several_some n e = of_some n (let l = several_of n e in omega arith)

pub not_several : (n : ℕ) → several n ≡ false → n ≤ 1
not_several zero e = zero-le
not_several (suc zero) e = le_refl 1
not_several (suc (suc n)) e = absurd (true≢false e)

pub some_plus : (a b : ℕ) → some (a + b) ≡ (some a || some b)
some_plus zero b = ap some (zero-add b)
some_plus (suc a) b = of_some (suc a + b) (omega arith)

-- one on a condition
pub some_if : (t : Bool) → some (if t then 1 else 0) ≡ t
some_if true = refl
some_if false = refl

pub if_low : (t : Bool) → (if t then 1 else 0) ≤ 1
if_low true = le_refl 1
if_low false = zero-le

-- some on a condition
pub some_linked : (t : Bool) (n : ℕ) → some (if t then suc n else 0) ≡ t
some_linked true n = refl
some_linked false n = refl

pub several_linked : (t : Bool) (n : ℕ) → several (if t then suc n else 0) ≡ (t && some n)
several_linked true zero = refl
several_linked true (suc n) = refl
several_linked false n = refl

-- ---- of a built pattern

pub built_next : (b : Built) (more : List ℕ) (u i : ℕ) → next (graph_of_built b more) u i ≡ has_bit (get_or b.follow u 0) i
built_next b more u i = some_linked (has_bit (get_or b.follow u 0) i) (get_or more (61 * u + i) 0)

pub built_doubled : (b : Built) (more : List ℕ) (u i : ℕ) → doubled (graph_of_built b more) u i ≡ (has_bit (get_or b.follow u 0) i && some (get_or more (61 * u + i) 0))
built_doubled b more u i = several_linked (has_bit (get_or b.follow u 0) i) (get_or more (61 * u + i) 0)
