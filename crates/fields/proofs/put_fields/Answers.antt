-- Three texts one after the other. Assumes nothing.
use mathlib.Core.Path.{◌≡◌, ap, subst}
use mathlib.Core.List.{◌++◌, append_assoc}
use Prim.Native.Nat.{ℕ, ◌+◌, ◌≤◌}
use native.Mathlib.Omega.{arith}
use lib.ListN.{length, length-append}
use Rattle.fields.specs.Fields.{decimal, newline, fields, Puts}
use Rattle.fields.proofs.Fields.{line_short}
use Rattle.fields.proofs.Putting.{puts_then, puts_kept}
use Rattle.fields.proofs.put_fields.Goals as goal

pub put_number-a-requires : goal.put_number-a-requires
put_number-a-requires c =
    let room : c.args.at + length (fields c.args.number c.args.word.now c.args.last) ≤ length c.args.out.now =
    let h = line_short c.args.number c.args.word.now c.args.last c.requires.0 c.requires.1 (omega arith) in
    omega arith in
    let h = simp length-append at room in omega arith

pub put-b-requires : goal.put-b-requires
put-b-requires c =
    let room : c.args.at + length (fields c.args.number c.args.word.now c.args.last) ≤ length c.args.out.now =
    let h = line_short c.args.number c.args.word.now c.args.last c.requires.0 c.requires.1 (omega arith) in
    omega arith in
    let h = simp length-append at room in
    let p = c.put_number-a.ensures in
    let k = puts_kept p in
    let e = simp length-append at p.end in
    omega arith

pub put_number-requires : goal.put_number-requires
put_number-requires c =
    let room : c.args.at + length (fields c.args.number c.args.word.now c.args.last) ≤ length c.args.out.now =
    let h = line_short c.args.number c.args.word.now c.args.last c.requires.0 c.requires.1 (omega arith) in
    omega arith in
    let h = simp length-append at room in
    let p = puts_then c.put_number-a.ensures c.put-b.ensures in
    let k = puts_kept p in
    let e = simp length-append at p.end in
    let n : length (decimal c.from.result) ≡ length (decimal c.args.last) = ap (λ (k : ℕ). length (decimal k)) c.from.ensures in
    omega arith

pub returns : goal.returns
returns c =
    let last = subst (λ (k : ℕ). Puts (decimal k ++ newline) c.put-b.new.out c.put-b.result c.put_number.new.out c.put_number.result) c.from.ensures c.put_number.ensures in
    let p : Puts _ c.args.out.now c.args.at _ _ = puts_then c.put_number-a.ensures (puts_then c.put-b.ensures last) in
    let h = line_short c.args.number c.args.word.now c.args.last c.requires.0 c.requires.1 (omega arith) in
    let q : Puts (fields c.args.number c.args.word.now c.args.last) c.args.out.now c.args.at c.put_number.new.out c.put_number.result = simp append_assoc at p in
    record { puts = q; upper_bound = omega (arith, q.end) }
