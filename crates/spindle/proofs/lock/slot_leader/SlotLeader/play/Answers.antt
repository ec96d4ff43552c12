use Rattle.std.proofs.Common.{rules}
use Rattle.spindle.proofs.lock.slot_leader.SlotLeader.play.Goals as goal

pub returns-then-is_err-clause-given_up : goal.returns-then-is_err-clause-given_up
returns-then-is_err-clause-given_up g c = search rules
