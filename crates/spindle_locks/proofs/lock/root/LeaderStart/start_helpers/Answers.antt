-- Each helper leaves the leader's seats its own.
use Rattle.std.proofs.Common.{refl, arith}
use Rattle.spindle_locks.proofs.lock.root.LeaderStart.start_helpers.Goals as goal

pub loop-asked-init : goal.loop-asked-init
loop-asked-init g c = record { seats = c.args.self.seated; few = omega (arith, c.args.self.empty); room = refl }
