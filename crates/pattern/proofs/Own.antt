-- The firsts and lasts of a part, and what may follow, are its own positions: with n positions to its left, n + 1 to n + positions.
-- By induction on the part. Assumes nothing.
use mathlib.Core.Path.{◌≡◌, sym, ◌∙◌}
use mathlib.Core.Logic.{⊎_elim}
use mathlib.Core.Bool.{true, ◌&&◌, ◌||◌, false≢true}
use Prim.Native.Nat.{ℕ, suc, ◌+◌, ◌≤◌, ◌<◌}
use native.Mathlib.Omega.{arith}
use lib.ListN.{length-append}
use borrow.Author.Tests.{eqb-true}
use Rattle.basics.proofs.Tests.{and_parts, or_cases}
use Rattle.pattern.specs.Parts.{loops, Part, letter, either, joined, again}
use Rattle.pattern.specs.Positions.{atoms, positions, can_be_empty, is_first, is_last, follows}
use Rattle.pattern.proofs.Follows.{follows_either, follows_joined, follows_again}

-- x is one of the positions of p, with n to its left
abbrev pub Own : ℕ → Part → ℕ → Type 0
Own n p x = (n < x) × (x ≤ n + positions p)

-- every part has one
pub some_position : (p : Part) → 0 < positions p
some_position (letter a) = omega arith
some_position (either p q) = omega (arith, some_position p, length-append (atoms p) (atoms q))
some_position (joined p q) = omega (arith, some_position p, length-append (atoms p) (atoms q))
some_position (again k p) = some_position p

module _ (n : ℕ) (p q : Part) (x : ℕ) where
  -- those of two parts side by side, however they are put together
  own_left : Own n p x → Own n (joined p q) x
  own_left h = omega (arith, length-append (atoms p) (atoms q))

  own_right : Own (n + positions p) q x → Own n (joined p q) x
  own_right h = omega (arith, length-append (atoms p) (atoms q))

pub first_own : (p : Part) (n x : ℕ) → is_first n p x ≡ true → Own n p x
first_own (letter a) n x e = let z = eqb-true x (suc n) e in omega arith
first_own (either p q) n x e =
    let m = n + positions p in
    ⊎_elim (λ h. own_left n p q x (first_own p n x h)) (λ h. own_right n p q x (first_own q m x h)) (or_cases (is_first n p x) (is_first m q x) e)
first_own (joined p q) n x e =
    let m = n + positions p in
    ⊎_elim (λ h. own_left n p q x (first_own p n x h)) (λ h. own_right n p q x (first_own q m x (and_parts (can_be_empty p) (is_first m q x) h).1))
    (or_cases (is_first n p x) (can_be_empty p && is_first m q x) e)
first_own (again k p) n x e = first_own p n x e

pub last_own : (p : Part) (n x : ℕ) → is_last n p x ≡ true → Own n p x
last_own (letter a) n x e = let z = eqb-true x (suc n) e in omega arith
last_own (either p q) n x e =
    let m = n + positions p in
    ⊎_elim (λ h. own_left n p q x (last_own p n x h)) (λ h. own_right n p q x (last_own q m x h)) (or_cases (is_last n p x) (is_last m q x) e)
last_own (joined p q) n x e =
    let m = n + positions p in
    ⊎_elim (λ h. own_right n p q x (last_own q m x h)) (λ h. own_left n p q x (last_own p n x (and_parts (can_be_empty q) (is_last n p x) h).1))
    (or_cases (is_last m q x) (can_be_empty q && is_last n p x) e)
last_own (again k p) n x e = last_own p n x e

pub follow_own : (p : Part) (n x y : ℕ) → follows n p x y ≡ true → Own n p x × Own n p y
follow_own (letter a) n x y e = absurd (false≢true e)
follow_own (either p q) n x y e =
    let m = n + positions p in
    ⊎_elim (λ h. let w = follow_own p n x y h in (own_left n p q x w.0, own_left n p q y w.1))
    (λ h. let w = follow_own q m x y h in (own_right n p q x w.0, own_right n p q y w.1)) (or_cases (follows n p x y) (follows m q x y) (sym (follows_either n p q x y) ∙ e))
follow_own (joined p q) n x y e =
    let m = n + positions p in
    let over = is_last n p x && is_first m q y in
    ⊎_elim (λ h. let w = follow_own p n x y h in (own_left n p q x w.0, own_left n p q y w.1))
    (λ g. ⊎_elim (λ h. let w = follow_own q m x y h in (own_right n p q x w.0, own_right n p q y w.1))
    (λ h. let w = and_parts (is_last n p x) (is_first m q y) h in (own_left n p q x (last_own p n x w.0), own_right n p q y (first_own q m y w.1)))
    (or_cases (follows m q x y) over g)) (or_cases (follows n p x y) (follows m q x y || over) (sym (follows_joined n p q x y) ∙ e))
follow_own (again k p) n x y e =
    let back = is_last n p x && is_first n p y in
    ⊎_elim (λ h. follow_own p n x y h)
    (λ h. let w = and_parts (is_last n p x) (is_first n p y) (and_parts (loops k) back h).1 in (last_own p n x w.0, first_own p n y w.1))
    (or_cases (follows n p x y) (loops k && back) (sym (follows_again k n p x y) ∙ e))
