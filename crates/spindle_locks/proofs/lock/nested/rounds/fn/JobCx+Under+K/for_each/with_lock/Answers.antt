use Rattle.std.proofs.Common.{rules}
use Rattle.spindle_locks.proofs.lock.nested.rounds.fn.JobCx+Under+K.for_each.with_lock.Goals as goal

pub returns : goal.returns
returns g c = record { answer = c.for_each.ensures.answer; refused = search rules }
