-- There is a job: one is asked for at least, and there are items.
use Rattle.std.proofs.Common.{arith}
use Rattle.spindle.proofs.lock.one_round.run_one.Goals as goal

pub with_lock-requires-clause-some : goal.with_lock-requires-clause-some
with_lock-requires-clause-some g c κs within = let size = c.size_of-jobs.ensures in omega (arith, size.some, size.threads)
