use Rattle.std.proofs.Common.{rules}
use Rattle.spindle_locks.proofs.lock.helper.help.Goals as goal

pub returns-clause-out : goal.returns-clause-out
returns-clause-out g c = search rules
