-- The atom's contract, and the position's for its set. Where the tables have an entry for it, both get it. Assumes nothing.
use mathlib.Core.Path.{◌≡◌, refl, sym, subst}
use Prim.Native.Nat.{ℕ, ◌+◌, ◌≤◌}
use native.Mathlib.Omega.{arith}
use lib.Dec.{eqb}
use Rattle.pattern.specs.Parts.{letter}
use Rattle.places.proofs.Rests.{letter_on}
use Rattle.links.specs.Rows.{Marks}
use Rattle.set_table.specs.Tables.{Writes}
use Rattle.parsed.proofs.Storing.{one_stored}
use Rattle.parsed.proofs.Joining.{gives_as, has_read_letter}
use Rattle.parsed.proofs.letter.Goals as goal
use Rattle.parsed.proofs.letter.Goals.{then-k-lt-ROWS, else-k-lt-ROWS}

pub returns-clause-says : goal.returns-clause-says
returns-clause-says c rows more =
    let k = c.min-k in
    let l = c.in_ok-a.a in
    let w = c.in_ok-a.ensures in
    let is = w.atom in
    let next : c.args.n + 1 ≤ 60 → k.result ≡ c.args.n + 1 = λ h. omega (arith, k.ensures, h) in
    let put : c.args.n + 1 ≤ 60 → Writes (c.args.n + 1) l.set l.credit c.args.tables.now c.if-k-lt-ROWS.tables = λ h.
    subst (λ (i : ℕ). Writes i l.set l.credit c.args.tables.now c.if-k-lt-ROWS.tables) (next h)
    (elim c.if-k-lt-ROWS.branch [
      | then-k-lt-ROWS w ↦ rw (sym w.tables-is) at w.write.ensures
      | else-k-lt-ROWS w ↦ absurd (omega (arith, h, next h, w.if-k-lt-ROWS.false))
    ]) in
    gives_as w.same
    record {
      good = refl;
      goes = refl;
      on = letter_on c.args.text.now (letter w.what) _ w.same;
      has =
          has_read_letter _ rows more _ _ w.what _ _ l.reversed l.hollow k.ensures
          (λ h. subst (λ (i : ℕ). Marks c.position-own.result (λ b. eqb b i)) (next h) c.position-own.ensures) is.turned is.hollow
          (λ h al e st. one_stored al w.what l.set l.credit _ _ (omega arith) (subst (λ (i : ℕ). Writes (i + 1) l.set l.credit c.args.tables.now c.if-k-lt-ROWS.tables) (sym e) (put h)) record { has = is.has; credit = is.credit; small = is.small } st);
    }
