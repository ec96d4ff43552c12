use Rattle.std.proofs.Common.{rules}
use Rattle.spindle.proofs.lock.slot_leader.SlotLeader.for_each.Goals as goal

pub returns-clause-answer : goal.returns-clause-answer
returns-clause-answer g c = search rules
