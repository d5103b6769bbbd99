-- By the kind of node: a state leads to new states first, then to new pairs, and a pair to pairs. Assumes nothing.
use native.Mathlib.Omega.{arith}
use Rattle.nodes.proofs.Nodes.{finds_single, finds_parting, finds_parted}
use Rattle.nodes.proofs.Steps.next_new.Goals as goal

pub returns-in-Some : goal.returns-in-Some
returns-in-Some c =
    let arm = c.in-Together-0-to-60 in
    finds_single c.args.self.now c.args.seen.now c.args.pending arm.is arm.u-is (omega arith) c.row-next.ensures c.difference-new.result c.members.result.left c.in-Some.a c.difference-new.ensures c.members.ensures
    c.in-Some.ensures.steps.least.here

pub returns-in_default-next : goal.returns-in_default-next
returns-in_default-next c =
    let arm = c.in-Together-0-to-60 in
    finds_parting c.args.self.now c.args.seen.now c.args.pending arm.is arm.u-is (omega arith) c.row-next.ensures c.difference-new.result c.members.result.left c.intersection-from.result c.difference-new.ensures c.members.ensures
    c.in_default-next.ensures.steps c.intersection-from.ensures c.new_pair.result c.new_pair.ensures

pub returns-in-Parted-1-to-60-1-to-60 : goal.returns-in-Parted-1-to-60-1-to-60
returns-in-Parted-1-to-60-1-to-60 c =
    let arm = c.in-Parted-1-to-60-1-to-60 in
    finds_parted c.args.self.now c.args.seen.now c.args.pending c.intersection-from-in-Parted-1-to-60-1-to-60.result arm.is arm.a-is arm.b-is (omega arith) c.row.ensures c.intersection-from-in-Parted-1-to-60-1-to-60.ensures c.row-in-Parted-1-to-60-1-to-60.ensures
    c.new_pair-in-Parted-1-to-60-1-to-60.result c.new_pair-in-Parted-1-to-60-1-to-60.ensures
