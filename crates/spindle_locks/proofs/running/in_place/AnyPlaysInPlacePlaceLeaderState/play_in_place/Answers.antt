-- The leader is between two rounds, whether it has played one or was refused.
use Rattle.spindle_locks.proofs.SlotMembers.{may_begin}
use Rattle.spindle_locks.proofs.running.in_place.AnyPlaysInPlacePlaceLeaderState.play_in_place.Goals as goal

pub returns-in_err-prepare-clause-between : goal.returns-in_err-prepare-clause-between
returns-in_err-prepare-clause-between g c = let p = c.args.state.now.member in may_begin p.share.tables.value p.party p.there p.leads

pub returns-clause-between : goal.returns-clause-between
returns-clause-between g c = let p = c.update.new.self in may_begin p.share.tables.value p.party p.there p.leads
