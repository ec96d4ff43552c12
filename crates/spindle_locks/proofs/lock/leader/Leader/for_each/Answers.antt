use Rattle.spindle_locks.proofs.lock.leader.Leader.for_each.Goals as goal

pub returns-clause-answer : goal.returns-clause-answer
returns-clause-answer g c = c.in_ok-round_into.ensures.answer
