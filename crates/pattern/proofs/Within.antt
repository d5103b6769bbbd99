-- With n positions to its left, a part's own are n + 1 to n + positions: its links lead to no others, and the atoms there are its
-- atoms. So the positions of two parts side by side are never the same. Assumes nothing.
use mathlib.Core.Path.{◌≡◌, ap, ◌∙◌}
use Prim.Native.Nat.{ℕ, zero, suc, ◌+◌, ◌<◌}
use native.Mathlib.Nat.{zero-add, add-zero}
use native.Mathlib.Omega.{arith}
use lib.ListN.{length-append, get_or, get_or-append}
use lib.Seq.{get_or-append-add}
use Rattle.pattern.specs.Parts.{Atom, Part, letter, joined}
use Rattle.pattern.specs.Grammar.{no_atom}
use Rattle.pattern.specs.Positions.{atoms, positions, atom_at}
use Rattle.pattern.proofs.Link.{Link, link_says}
use Rattle.pattern.proofs.Own.{Own, first_own, last_own, follow_own}

pub positions_joined : (p q : Part) → positions (joined p q) ≡ positions p + positions q
positions_joined p q = length-append (atoms p) (atoms q)

-- ---- links stay within

-- u is one of the positions of p, or 0
abbrev pub Within : ℕ → Part → ℕ → Type 0
Within n p zero = Unit {0}
Within n p (suc x) = Own n p (suc x)

pub within : (p : Part) (n u v : ℕ) → Link n p u v → Within n p u × Within n p v
within p n zero zero h = (tt, tt)
within p n zero (suc y) h = (tt, first_own p n (suc y) ((link_says p n 0 (suc y)).0 h))
within p n (suc x) zero h = (last_own p n (suc x) ((link_says p n (suc x) 0).0 h), tt)
within p n (suc x) (suc y) h = follow_own p n (suc x) (suc y) ((link_says p n (suc x) (suc y)).0 h)

-- a position of the left part has no link in the right one, nor one of the right in the left
pub not_right : (n : ℕ) (p q : Part) (u v : ℕ) → Own n p u → Link (n + positions p) q u v → ⊥
not_right n p q zero v h e = omega arith
not_right n p q (suc x) v h e = let w = (within q (n + positions p) (suc x) v e).0 in omega arith

pub not_left : (n : ℕ) (p q : Part) (u v : ℕ) → Own (n + positions p) q u → Link n p u v → ⊥
not_left n p q zero v h e = omega arith
not_left n p q (suc x) v h e = let w = (within p n (suc x) v e).0 in omega arith

-- ---- the atoms of a part's positions

module _ (at : ℕ → Atom) where
  abbrev pub Agree : ℕ → Part → Type 0
  Agree n p = (j : ℕ) → j < positions p → at (suc (n + j)) ≡ get_or (atoms p) j no_atom

  pub agree_one : (n : ℕ) (a : Atom) → Agree n (letter a) → at (suc n) ≡ a
  agree_one n a g = rw add-zero at (g 0 (omega arith))

  pub agree_left : (n : ℕ) (p q : Part) → Agree n (joined p q) → Agree n p
  agree_left n p q g j l = let z = positions_joined p q in g j (omega arith) ∙ get_or-append (atoms p) (atoms q) no_atom j l

  pub agree_right : (n : ℕ) (p q : Part) → Agree n (joined p q) → Agree (n + positions p) q
  agree_right n p q g j l =
      let z = positions_joined p q in
      let e : suc (n + positions p + j) ≡ suc (n + (positions p + j)) = omega arith in
      ap at e ∙ g (positions p + j) (omega arith) ∙ get_or-append-add (atoms p) (atoms q) j no_atom

pub agree_whole : (p : Part) → Agree (atom_at p) 0 p
agree_whole p j l = ap (λ (i : ℕ). get_or (atoms p) i no_atom) (zero-add j)
