-- A part further on: with d positions more to its left, its firsts, lasts and links are the same ones, d further on. Assumes nothing.
use mathlib.Core.Path.{◌≡◌, refl, ap, ap₂, ◌∙◌}
use mathlib.Core.Bool.{Bool, ◌&&◌, ◌||◌}
use Prim.Native.Nat.{ℕ, suc, ◌+◌}
use native.Mathlib.Nat.{add_comm}
use native.Mathlib.Omega.{arith}
use lib.Dec.{eqb}
use Rattle.std.specs.Prelude.{if◌then◌else◌}
use Rattle.basics.proofs.Tests.{equal_added}
use Rattle.pattern.specs.Parts.{loops, Part, letter, either, joined, again}
use Rattle.pattern.specs.Positions.{positions, can_be_empty, is_first, is_last, links}

-- d more to the left of both parts
beyond : (p : Part) (n d : ℕ) → (n + d) + positions p ≡ (n + positions p) + d
beyond p n d = omega arith

moved_one : (n d x : ℕ) → eqb (x + d) (suc (n + d)) ≡ eqb x (suc n)
moved_one n d x = ap₂ eqb (add_comm x d) (omega arith) ∙ equal_added d x (suc n)

pub first_moved : (p : Part) (n d x : ℕ) → is_first (n + d) p (x + d) ≡ is_first n p x
first_moved (letter a) n d x = moved_one n d x
first_moved (either p q) n d x = ap₂ ◌||◌ (first_moved p n d x) (ap (λ (k : ℕ). is_first k q (x + d)) (beyond p n d) ∙ first_moved q (n + positions p) d x)
first_moved (joined p q) n d x = ap₂ (λ (a b : Bool). a || (can_be_empty p && b)) (first_moved p n d x) (ap (λ (k : ℕ). is_first k q (x + d)) (beyond p n d) ∙ first_moved q (n + positions p) d x)
first_moved (again k p) n d x = first_moved p n d x

pub last_moved : (p : Part) (n d x : ℕ) → is_last (n + d) p (x + d) ≡ is_last n p x
last_moved (letter a) n d x = moved_one n d x
last_moved (either p q) n d x = ap₂ ◌||◌ (last_moved p n d x) (ap (λ (k : ℕ). is_last k q (x + d)) (beyond p n d) ∙ last_moved q (n + positions p) d x)
last_moved (joined p q) n d x = ap₂ (λ (a b : Bool). a || (can_be_empty q && b)) (ap (λ (k : ℕ). is_last k q (x + d)) (beyond p n d) ∙ last_moved q (n + positions p) d x) (last_moved p n d x)
last_moved (again k p) n d x = last_moved p n d x

pub links_moved : (p : Part) (n d x y : ℕ) → links (n + d) p (x + d) (y + d) ≡ links n p x y
links_moved (letter a) n d x y = refl
links_moved (either p q) n d x y = ap₂ ◌+◌ (links_moved p n d x y) (ap (λ (k : ℕ). links k q (x + d) (y + d)) (beyond p n d) ∙ links_moved q (n + positions p) d x y)
links_moved (joined p q) n d x y =
    ap₂ ◌+◌ (links_moved p n d x y)
    (ap₂ ◌+◌ (ap (λ (k : ℕ). links k q (x + d) (y + d)) (beyond p n d) ∙ links_moved q (n + positions p) d x y)
    (ap₂ (λ (a b : Bool). if a && b then 1 else 0) (last_moved p n d x) (ap (λ (k : ℕ). is_first k q (y + d)) (beyond p n d) ∙ first_moved q (n + positions p) d y)))
links_moved (again k p) n d x y = ap₂ ◌+◌ (links_moved p n d x y) (ap₂ (λ (a b : Bool). if loops k && (a && b) then 1 else 0) (last_moved p n d x) (first_moved p n d y))
