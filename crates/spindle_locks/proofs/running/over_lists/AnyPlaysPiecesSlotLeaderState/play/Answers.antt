-- The leader is between two rounds, whether it has played one or was refused.
use Rattle.spindle_locks.proofs.SlotMembers.{may_begin}
use Rattle.spindle_locks.proofs.running.over_lists.AnyPlaysPiecesSlotLeaderState.play.Goals as goal

pub returns-clause-between : goal.returns-clause-between
returns-clause-between g c = let p = c.play.new.self in may_begin p.share.tables.value p.party p.there p.leads
