-- One count is 1, the others are 0. Assumes nothing.
use Rattle.std.proofs.Common.{ℕ, ◌^◌, ◌≤◌, replicate, arith}
use Rattle.basics.proofs.Lists.{alike, set_keeps}
use Rattle.frontier.proofs.Row.start.Goals as goal

pub invariant_of-result : goal.invariant_of-result
invariant_of-result c = record {
  states = omega arith;
  stopped = set_keeps few (replicate 61 0) 0 1 0 (omega arith) (alike few 61 0 0 (omega arith) (omega arith));
}
  where
    few : ℕ → Type 0
    few n = n ≤ 2 ^ 63
