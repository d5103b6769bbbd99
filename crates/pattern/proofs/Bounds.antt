-- The graph of a part of up to 60 positions is bounded, but for the credits, which only its reading bounds. Assumes nothing.
use mathlib.Core.Path.{◌≡◌, sym, ap, ◌∙◌}
use mathlib.Core.Logic.{⊎_elim}
use mathlib.Core.Bool.{true, and-false, false≢true}
use Prim.Native.Nat.{ℕ, zero, suc, ◌≤◌, zero-le}
use native.Mathlib.Omega.{arith}
use lib.Dec.{leb}
use lib.IntN.{nat_abs}
use lib.ListN.{get_or-eq_default}
use borrow.Author.Tests.{le-leb}
use Rattle.basics.proofs.Tests.{and_parts, and_of, le_or_lt}
use Rattle.alphabet.specs.Alphabet.{is_letter}
use Rattle.graph.specs.Graph.{next, is_position, Bounded}
use Rattle.graph.proofs.Links.{some_if}
use Rattle.pattern.specs.Parts.{Atom, holds, Part}
use Rattle.pattern.specs.Grammar.{no_atom}
use Rattle.pattern.specs.Positions.{atoms, positions, atom_at, is_first, last_of, graph_of}
use Rattle.pattern.proofs.Own.{Own, first_own, last_own, follow_own}

module _ (p : Part) where
  pub own_position : (i : ℕ) → Own 0 p i → is_position (graph_of p) i ≡ true
  own_position i h = and_of (leb 1 i) (leb i (positions p)) (le-leb 1 i (omega arith)) (le-leb i (positions p) (omega arith))

  next_within : (u i : ℕ) → next (graph_of p) u i ≡ true → (u ≤ positions p) × Own 0 p i
  next_within zero i e = (zero-le, first_own p 0 i (sym (some_if (is_first 0 p i)) ∙ e))
  next_within (suc x) i e = let w = follow_own p 0 (suc x) i e in let l = w.0 in (omega arith, w.1)

  last_within : (u : ℕ) → last_of p u ≡ true → u ≤ positions p
  last_within zero e = zero-le
  last_within (suc x) e = let l = last_own p 0 (suc x) e in omega arith

  pub holds_position : (i b : ℕ) → holds (atom_at p i) b ≡ true → Own 0 p i
  holds_position zero b e = absurd (false≢true (sym (and-false (is_letter b)) ∙ e))
  holds_position (suc i) b e =
      ⊎_elim (λ h. absurd (false≢true (sym (ap (λ (a : Atom). holds a b) (get_or-eq_default (atoms p) no_atom {n = i} h) ∙ and-false (is_letter b)) ∙ e)))
      (λ h. omega arith) (le_or_lt (positions p) i)

  pub graph_bounded : positions p ≤ 60 → ((i : ℕ) → nat_abs (atom_at p i).credit ≤ 9) → Bounded (graph_of p)
  graph_bounded few small = record {
    few = few;
    next_from = λ u i e. (next_within u i e).0;
    next_to = λ u i e. own_position i (next_within u i e).1;
    last_from = last_within;
    holds_at = λ i b e. own_position i (holds_position i b e);
    letters = λ i b e. (and_parts (is_letter b) _ e).0;
    credits = small;
  }
