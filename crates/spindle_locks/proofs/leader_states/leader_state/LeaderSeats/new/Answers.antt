-- The leader stands where it stood as a member.
use Rattle.std.proofs.Common.{ap, sym, subst, ◌∙◌}
use Rattle.spindle_rounds.specs.SlotMembers.{IsDetachedLeader}
use Rattle.spindle_locks.proofs.leader_states.leader_state.LeaderSeats.new.Goals as goal

pub invariant_of-result : goal.invariant_of-result
invariant_of-result g c = let q = c.part-party.ensures in let r = c.requires in record {
  leads = subst (λ t. IsDetachedLeader t c.part-party.result) (sym r.tables) q.leads;
  hand = ap (λ z. z.me.1) q.seat ∙ r.fresh.0;
  board = ap (λ z. z.me.0.board) q.seat ∙ r.fresh.1;
}
