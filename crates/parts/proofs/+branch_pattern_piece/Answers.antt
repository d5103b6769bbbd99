-- Each goal is a law of Parsing or Folding at what the callees ensure: in both loops something is read so far, one more is joined to
-- it, and that was the last one or another follows. Assumes nothing.
use Rattle.std.proofs.Common.{rules}
use mathlib.Core.Path.{refl, sym, ◌∙◌}
use Prim.Native.Nat.{ℕ}
use Rattle.std.specs.Prelude.{Some, None}
use Prim.Native.Char.{code}
use native.Mathlib.Omega.{arith}
use lib.ListN.{length}
use borrow.Author.Tests.{ltb-true, eq-eqb, ne_eqb}
use Rattle.pattern.specs.Grammar.{peek}
use Rattle.places.proofs.Places.{text_after, none_first}
use Rattle.set_table.specs.Tables.{LettersStay}
use Rattle.parsed.specs.Parsed.{memory}
use Rattle.parts.specs.Parsing.{Parses}
use Rattle.parts.proofs.Parsing.{parses_by, atom_from, atom_open, atom_letter, no_piece, atom_placed, piece_repeated}
use Rattle.parts.proofs.Folding.{pieces, branches, begins, breaks, ends, shorter, goes_further}
use Rattle.parts.proofs.+branch_pattern_piece.Goals as goal
use Rattle.parts.proofs.+branch_pattern_piece.Goals.{branch-Joined-left-lt1, branch-in-40, branch-in_default, branch-in_default-via-then-left-lt1, branch-in_default-via-else-left-lt1+in_default-1, pattern-in_default-next, pattern-in_Some-next+in_default, pattern-in_default-via-then-rest-lt1, pattern-in_default-via-else-rest-lt1+in_default-1}

-- ---- a branch: what comes next is an atom, a pattern in `( )` or a lettered one

-- where the two ways join
read : (t : ℕ) (c : branch-Joined-left-lt1 t)
    → Parses atom_from 0 c.loop-left.left.now c.loop-left.so_far.n (memory c.loop-left.rows c.loop-left.more c.loop-left.tables) (memory c.if-left-lt1.rows c.if-left-lt1.more c.if-left-lt1.tables) c.if-left-lt1.read
read t c =
    let loop = c.loop-left in
    let left = loop.left.now in
    let then = memory loop.rows loop.more loop.tables in
    elim c.if-left-lt1.branch [
      | branch-in-40 w ↦
          parses_by atom_from 0 left loop.so_far.n then w.rows-is w.more-is w.tables-is w.read-is
          (atom_open left _ _ _ _ _ (text_after 1 _) (omega (arith, w.in-40.len_at_least)) (search rules) w.piece-p.ensures.says)
      | branch-in_default w ↦
          parses_by atom_from 0 left loop.so_far.n then w.rows-is w.more-is w.tables-is w.read-is
          (atom_letter left _ _ _ _
          (elim w.in_default.branch [
            | branch-in_default-via-then-left-lt1 v ↦ none_first left _ (ltb-true (length left) 1 (search rules))
            | branch-in_default-via-else-left-lt1+in_default-1 v ↦ search rules
          ]) (w.letter-read.ensures.says loop.rows loop.more))
    ]

-- and sets of letters stay such on either
letters : (t : ℕ) (c : branch-Joined-left-lt1 t) → LettersStay c.loop-left.tables c.if-left-lt1.tables
letters t c =
    elim c.if-left-lt1.branch [
      | branch-in-40 w ↦ rw (sym w.tables-is) at w.piece-p.ensures.letters
      | branch-in_default w ↦ rw (sym w.tables-is) at w.letter-read.ensures.letters
    ]

pub branch-loop-left-init : goal.branch-loop-left-init
branch-loop-left-init t c = (begins pieces _ _ _ c.requires _ c.nothing-so_far.ensures, λ all. all)

pub branch-returns-in_err-atom-clause-says : goal.branch-returns-in_err-atom-clause-says
branch-returns-in_err-atom-clause-says t c =
    let read = read t (goal.at.branch-returns-in_err-atom-clause-says t c).Joined-left-lt1 in
    rw c.from_residual.ensures (breaks pieces _ _ _ _ _ _ c.loop-left.invariant.0 (no_piece _ (rw c.in_err-atom.was at read)))

pub branch-repeat-requires : goal.branch-repeat-requires
branch-repeat-requires t c = atom_placed _ _ _ _ _ c.in_ok-atom.rest (rw c.in_ok-atom.was at (read t (goal.at.branch-repeat-requires t c).Joined-left-lt1)) c.loop-left.invariant.0.few

pub branch-returns-in_err-next-clause-says : goal.branch-returns-in_err-next-clause-says
branch-returns-in_err-next-clause-says t c =
    let atom = rw c.in_ok-atom.was at (read t (goal.at.branch-returns-in_err-next-clause-says t c).Joined-left-lt1) in
    rw c.from_residual-in_err-next.ensures (breaks pieces _ _ _ _ _ _ c.loop-left.invariant.0 (piece_repeated _ _ _ _ _ c.in_ok-atom.rest atom (memory c.repeat.new.rows c.repeat.new.more c.repeat.new.tables) None c.in_err-next.ensures.says))

pub branch-returns-then-not-goes_on-clause-says : goal.branch-returns-then-not-goes_on-clause-says
branch-returns-then-not-goes_on-clause-says t c =
    let atom = rw c.in_ok-atom.was at (read t (goal.at.branch-returns-then-not-goes_on-clause-says t c).Joined-left-lt1) in
    ends pieces _ _ _ _ _ _ c.loop-left.invariant.0 _ _ _ _ c.in_ok-next.rest (piece_repeated _ _ _ _ _ c.in_ok-atom.rest atom _ (Some (c.in_ok-next.next, c.in_ok-next.rest)) c.in_ok-next.ensures.says) (c.join-so_far.ensures, refl) (sym c.goes_on.ensures ∙ c.if-not-goes_on.true)

pub branch-returns-in_err-next-clause-letters : goal.branch-returns-in_err-next-clause-letters
branch-returns-in_err-next-clause-letters t c all =
    c.in_err-next.ensures.letters (letters t (goal.at.branch-returns-in_err-next-clause-letters t c).Joined-left-lt1 (c.loop-left.invariant.1 all))

pub branch-returns-then-not-goes_on-clause-letters : goal.branch-returns-then-not-goes_on-clause-letters
branch-returns-then-not-goes_on-clause-letters t c all =
    c.in_ok-next.ensures.letters (letters t (goal.at.branch-returns-then-not-goes_on-clause-letters t c).Joined-left-lt1 (c.loop-left.invariant.1 all))

pub branch-loop-left-smaller : goal.branch-loop-left-smaller
branch-loop-left-smaller t c =
    let atom = rw c.in_ok-atom.was at (read t (goal.at.branch-loop-left-smaller t c).Joined-left-lt1) in
    shorter pieces _ _ _ _ _ _ c.loop-left.invariant.0 _ _ _ _ c.in_ok-next.rest (piece_repeated _ _ _ _ _ c.in_ok-atom.rest atom _ (Some (c.in_ok-next.next, c.in_ok-next.rest)) c.in_ok-next.ensures.says) (c.join-so_far.ensures, refl) _ refl (sym c.goes_on.ensures ∙ c.if-not-goes_on.false)

pub branch-loop-left-preserved : goal.branch-loop-left-preserved
branch-loop-left-preserved t c =
    let atom = rw c.in_ok-atom.was at (read t (goal.at.branch-loop-left-preserved t c).Joined-left-lt1) in (
      goes_further pieces _ _ _ _ _ _ c.loop-left.invariant.0 _ _ _ _ c.in_ok-next.rest (piece_repeated _ _ _ _ _ c.in_ok-atom.rest atom _ (Some (c.in_ok-next.next, c.in_ok-next.rest)) c.in_ok-next.ensures.says) (c.join-so_far.ensures, refl) _ refl (sym c.goes_on.ensures ∙ c.if-not-goes_on.false),
      λ all. c.in_ok-next.ensures.letters (letters t (goal.at.branch-loop-left-preserved t c).Joined-left-lt1 (c.loop-left.invariant.1 all)),
    )

-- ---- a pattern

pub pattern-loop-next-init : goal.pattern-loop-next-init
pattern-loop-next-init t c = (begins branches _ _ _ c.requires _ c.nothing-so_far.ensures, λ all. all)

pub pattern-returns-clause-says : goal.pattern-returns-clause-says
pattern-returns-clause-says t c =
    elim c.match-branch.branch [
      | pattern-in_default-next w ↦ rw w.read-is (breaks branches _ _ _ _ _ _ c.loop-next.invariant.0 w.in_default-next.ensures.says)
      | pattern-in_Some-next+in_default w ↦
          let rest = w.in_Some-next.rest.now in
          rw w.read-is
          (ends branches _ _ _ _ _ _ c.loop-next.invariant.0 _ _ _ _ w.in_Some-next.rest w.in_Some-next.ensures.says (w.either-so_far.ensures, refl)
          (ne_eqb (peek rest) (code "|")
          (elim w.in_default.branch [
            | pattern-in_default-via-then-rest-lt1 v ↦ none_first rest _ (ltb-true (length rest) 1 (search rules))
            | pattern-in_default-via-else-rest-lt1+in_default-1 v ↦ search rules
          ])))
    ]

pub pattern-loop-next-smaller : goal.pattern-loop-next-smaller
pattern-loop-next-smaller t c =
    shorter branches _ _ _ _ _ _ c.loop-next.invariant.0 _ _ _ _ c.in_Some-next.rest c.in_Some-next.ensures.says (c.either-so_far.ensures, refl) _ (text_after 1 _) (eq-eqb (peek c.in_Some-next.rest.now) (code "|") (search rules))

pub pattern-loop-next-preserved : goal.pattern-loop-next-preserved
pattern-loop-next-preserved t c = (
  goes_further branches _ _ _ _ _ _ c.loop-next.invariant.0 _ _ _ _ c.in_Some-next.rest c.in_Some-next.ensures.says (c.either-so_far.ensures, refl) _ (text_after 1 _) (eq-eqb (peek c.in_Some-next.rest.now) (code "|") (search rules)),
  λ all. c.in_Some-next.ensures.letters (c.loop-next.invariant.1 all),
)
