-- One relation for the four rules of positions. State 0 stands before the first position and after the last one, so that a first,
-- a last, what may follow and the empty text are one thing: a link from state to state. `Link` says by recursion on the part what
-- the tests test; both are shown the same once, and every later proof takes links apart by cases. Assumes nothing.
use mathlib.Core.Path.{◌≡◌, refl, ap}
use mathlib.Core.Logic.{◌⊎◌, inl, inr, ⊎_elim, ◌↔◌}
use mathlib.Core.Bool.{Bool, true, false, ◌&&◌, ◌||◌, and_comm, false≢true}
use Prim.Native.Nat.{ℕ, zero, suc, ◌+◌}
use native.Mathlib.Omega.{arith}
use lib.Dec.{eqb}
use borrow.Author.Tests.{eqb-true, eq-eqb}
use Rattle.basics.proofs.Tests.{and_parts, and_of, or_left, or_right, or_cases}
use Rattle.pattern.specs.Parts.{Repeat, skips, loops, Part, letter, either, joined, again}
use Rattle.pattern.specs.Positions.{positions, can_be_empty, is_first, is_last, follows}
use Rattle.pattern.proofs.Follows.{follows_either, follows_joined, follows_again}

-- ---- the tests as one

abbrev pub link : ℕ → Part → ℕ → ℕ → Bool
link n p zero zero = can_be_empty p
link n p zero (suc y) = is_first n p (suc y)
link n p (suc x) zero = is_last n p (suc x)
link n p (suc x) (suc y) = follows n p (suc x) (suc y)

-- is a state not 0
abbrev pub is_place : ℕ → Bool
is_place zero = false
is_place (suc x) = true

link_either : (n : ℕ) (p q : Part) (u v : ℕ) → link n (either p q) u v ≡ (link n p u v || link (n + positions p) q u v)
link_either n p q zero zero = refl
link_either n p q zero (suc y) = refl
link_either n p q (suc x) zero = refl
link_either n p q (suc x) (suc y) = follows_either n p q (suc x) (suc y)

-- within the left part, within the right one, or over from one to the other
link_joined : (n : ℕ) (p q : Part) (u v : ℕ)
    → link n (joined p q) u v ≡ ((is_place v && link n p u v) || ((is_place u && link (n + positions p) q u v) || (link n p u 0 && link (n + positions p) q 0 v)))
link_joined n p q zero zero = refl
link_joined n p q zero (suc y) = refl
link_joined n p q (suc x) zero = ap (λ (t : Bool). is_last (n + positions p) q (suc x) || t) (and_comm (can_be_empty q) (is_last n p (suc x)))
link_joined n p q (suc x) (suc y) = follows_joined n p q (suc x) (suc y)

-- ---- the same as a type

abbrev pub Link : ℕ → Part → ℕ → ℕ → Type 0
Link n (letter a) zero zero = ⊥
Link n (letter a) zero (suc y) = y ≡ n
Link n (letter a) (suc x) zero = x ≡ n
Link n (letter a) (suc x) (suc y) = ⊥
Link n (either p q) u v = Link n p u v ⊎ Link (n + positions p) q u v
Link n (joined p q) u v =
    ((is_place v ≡ true) × Link n p u v) ⊎ (((is_place u ≡ true) × Link (n + positions p) q u v) ⊎ (Link n p u 0 × Link (n + positions p) q 0 v))
Link n (again k p) zero zero = (skips k ≡ true) ⊎ Link n p 0 0
Link n (again k p) zero (suc y) = Link n p 0 (suc y)
Link n (again k p) (suc x) zero = Link n p (suc x) 0
Link n (again k p) (suc x) (suc y) = Link n p (suc x) (suc y) ⊎ ((loops k ≡ true) × (Link n p (suc x) 0 × Link n p 0 (suc y)))

-- a type holds just where a test passes
abbrev Says : Type 0 → Bool → Type 0
Says A t = A ↔ (t ≡ true)

says_itself : (t : Bool) → Says (t ≡ true) t
says_itself t = (λ e. e, λ e. e)

says_never : Says ⊥ false
says_never = (λ h. absurd h, λ e. absurd (false≢true e))

says_same : (x n : ℕ) → Says (x ≡ n) (eqb (suc x) (suc n))
says_same x n = (λ e. eq-eqb (suc x) (suc n) (ap suc e), λ e. let z = eqb-true (suc x) (suc n) e in omega arith)

says_or : {A B : Type 0} {a b : Bool} → Says A a → Says B b → Says (A ⊎ B) (a || b)
says_or {a = a} {b = b} f g = (⊎_elim (λ x. or_left a b (f.0 x)) (λ y. or_right a b (g.0 y)), λ e. ⊎_elim (λ x. inl (f.1 x)) (λ y. inr (g.1 y)) (or_cases a b e))

says_and : {A B : Type 0} {a b : Bool} → Says A a → Says B b → Says (A × B) (a && b)
says_and {a = a} {b = b} f g = (λ h. and_of a b (f.0 h.0) (g.0 h.1), λ e. let h = and_parts a b e in (f.1 h.0, g.1 h.1))

pub link_says : (p : Part) (n u v : ℕ) → Link n p u v ↔ (link n p u v ≡ true)
link_says (letter a) n zero zero = says_never
link_says (letter a) n zero (suc y) = says_same y n
link_says (letter a) n (suc x) zero = says_same x n
link_says (letter a) n (suc x) (suc y) = says_never
link_says (either p q) n u v = rw (link_either n p q u v) (says_or (link_says p n u v) (link_says q (n + positions p) u v))
link_says (joined p q) n u v =
    rw (link_joined n p q u v)
    (says_or (says_and (says_itself (is_place v)) (link_says p n u v))
    (says_or (says_and (says_itself (is_place u)) (link_says q (n + positions p) u v)) (says_and (link_says p n u 0) (link_says q (n + positions p) 0 v))))
link_says (again k p) n zero zero = says_or (says_itself (skips k)) (link_says p n 0 0)
link_says (again k p) n zero (suc y) = link_says p n 0 (suc y)
link_says (again k p) n (suc x) zero = link_says p n (suc x) 0
link_says (again k p) n (suc x) (suc y) =
    rw (follows_again k n p (suc x) (suc y))
    (says_or (link_says p n (suc x) (suc y)) (says_and (says_itself (loops k)) (says_and (link_says p n (suc x) 0) (link_says p n 0 (suc y)))))

-- ---- a repeat keeps its part's links, and may go over from an end to a first

pub again_on : (k : Repeat) (n : ℕ) (p : Part) (u v : ℕ) → Link n p u v → Link n (again k p) u v
again_on k n p zero zero e = inr e
again_on k n p zero (suc y) e = e
again_on k n p (suc x) zero e = e
again_on k n p (suc x) (suc y) e = inl e

pub again_over : (k : Repeat) (n : ℕ) (p : Part) (u y : ℕ) → loops k ≡ true → Link n p u 0 → Link n p 0 (suc y) → Link n (again k p) u (suc y)
again_over k n p zero y l e f = f
again_over k n p (suc x) y l e f = inr (l, (e, f))

-- or to any state that it leads to
pub again_past : (k : Repeat) (n : ℕ) (p : Part) (u v : ℕ) → loops k ≡ true → Link n p u 0 → Link n (again k p) 0 v → Link n (again k p) u v
again_past k n p u zero l e f = again_on k n p u 0 e
again_past k n p u (suc y) l e f = again_over k n p u y l e f
