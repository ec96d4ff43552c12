-- The leader leaves from where it stands between two rounds.
use Rattle.std.proofs.Common.{sym, subst, ◌∙◌}
use Rattle.spindle_rounds.specs.SlotMembers.{IsDetachedLeader}
use Rattle.spindle_locks.proofs.SlotMembers.{stood}
use Rattle.spindle_locks.proofs.leader_states.leader_state.SlotMember.leave.Goals as goal

pub new-requires-clause-at : goal.new-requires-clause-at
new-requires-clause-at g c = let s = c.in-Some.party in let r = c.resume-barrier.ensures in
    (stood c.deref-tables.result.now c.resume-barrier.result s r.party r.barrier
    (subst (λ t. IsDetachedLeader t s) (sym c.deref-tables.ensures) (c.args.self.leads s c.in-Some.is))).0

pub new-requires-clause-inside : goal.new-requires-clause-inside
new-requires-clause-inside g c = let s = c.in-Some.party in let r = c.resume-barrier.ensures in
    (stood c.deref-tables.result.now c.resume-barrier.result s r.party r.barrier
    (subst (λ t. IsDetachedLeader t s) (sym c.deref-tables.ensures) (c.args.self.leads s c.in-Some.is))).2.0

pub new-requires-clause-idle : goal.new-requires-clause-idle
new-requires-clause-idle g c = let s = c.in-Some.party in let r = c.resume-barrier.ensures in
    (stood c.deref-tables.result.now c.resume-barrier.result s r.party r.barrier
    (subst (λ t. IsDetachedLeader t s) (sym c.deref-tables.ensures) (c.args.self.leads s c.in-Some.is))).3

pub new-requires-clause-role : goal.new-requires-clause-role
new-requires-clause-role g c = let s = c.in-Some.party in let r = c.resume-barrier.ensures in
    let there = stood c.deref-tables.result.now c.resume-barrier.result s r.party r.barrier
    (subst (λ t. IsDetachedLeader t s) (sym c.deref-tables.ensures) (c.args.self.leads s c.in-Some.is)) in
    there.2.1 ∙ sym there.1
