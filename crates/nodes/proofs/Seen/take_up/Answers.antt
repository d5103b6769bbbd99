-- A state goes into the set, a pair into both of its rows. Assumes nothing.
use mathlib.Core.Path.{refl}
use native.Mathlib.Omega.{arith}
use Rattle.nodes.proofs.TakingUp.{took_state, took_pair}
use Rattle.nodes.proofs.Seen.take_up.Goals as goal

pub returns-in-Together : goal.returns-in-Together
returns-in-Together c = took_state c.args.self.now _ c.args.node c.in-Together.a c.requires c.in-Together.is refl c.with-self.ensures

pub returns-in-Parted : goal.returns-in-Parted
returns-in-Parted c =
    took_pair c.args.self.now _ c.args.node c.in-Parted.a c.in-Parted.b c.with.result c.with-in-Parted.result (omega arith) c.requires c.in-Parted.is refl refl c.with.ensures c.with-in-Parted.ensures
