-- The leader has taken the slots, and stands where it stood.
use Rattle.std.proofs.Common.{◌%◌, arith, refl, ap, sym, subst, ◌∙◌}
use Rattle.spindle_rounds.specs.declared.round_table.view.Standing.TheVariants.{Inside}
use Rattle.spindle_rounds.specs.RoundSteps.{round_of}
use Rattle.spindle_rounds.specs.SlotMembers.{IsDetachedLeader, HoldsEmpty}
use Rattle.spindle_locks.proofs.SlotMembers.{empty_hand}
use Rattle.spindle_locks.proofs.TrayPlaces.{some_is}
use Rattle.spindle_locks.proofs.leader_states.leader_state.SlotMember.new.Goals as goal

pub hold_slots-requires-clause-leads : goal.hold_slots-requires-clause-leads
hold_slots-requires-clause-leads g c = let r = c.args.leader_seats.leads in rw c.seat.ensures.value ((_, r.3), r.4)

pub invariant_of-result : goal.invariant_of-result
invariant_of-result g c = let n = c.args.leader_seats in let r = n.leads in let h = rw c.seat.ensures.value at c.hold_slots.ensures in let me = h.step.1.2 in
    let u = ap (λ z. z.0.standing) me in
    let f = ap (λ z. z.0.from) me in let t = ap (λ z. z.0.to) me in let i = r.5.1 in record {
      there = refl;
      leads = λ s e. subst (λ z. IsDetachedLeader n.share.tables.value z) (some_is e) (
        h.seat.0 ∙ r.0,
        ap (λ z. z.0.threads) me ∙ r.1,
        ap (λ z. z.0.leader) me ∙ r.2,
        u ∙ (r.3 ∙ ap (λ z. Inside (round_of z)) (sym u)),
        ap (λ z. z.0.known.unpublished) me ∙ r.4,
        (ap (λ z. z.0.claim) me ∙ r.5.0, omega arith),
        r.6 ∙ ap (λ z. round_of z % 2) (sym u),
        r.7,
      );
      holds = λ s e. subst (λ z. HoldsEmpty n.share.slots z) (some_is e) (empty_hand n.share.slots _ h.held.hand, h.held.out);
    }
