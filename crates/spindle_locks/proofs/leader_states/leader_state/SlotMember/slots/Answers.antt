-- The leader is between two rounds.
use Rattle.spindle_locks.proofs.SlotMembers.{may_begin}
use Rattle.spindle_locks.proofs.leader_states.leader_state.SlotMember.slots.Goals as goal

pub returns-clause-between : goal.returns-clause-between
returns-clause-between g c = let p = c.args.self.now in may_begin p.share.tables.value p.party p.there p.leads
