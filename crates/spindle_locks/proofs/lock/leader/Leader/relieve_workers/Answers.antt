use Rattle.std.proofs.Common.{rules}
use Rattle.spindle_locks.proofs.lock.leader.Leader.relieve_workers.Goals as goal

pub returns-clause-rest : goal.returns-clause-rest
returns-clause-rest g c = search rules
