-- The leader plays at its barrier, and is parted from it again.
use Rattle.std.proofs.Common.{◌≡◌, Some, refl, ap, sym, subst, ◌∙◌}
use Rattle.spindle_rounds.specs.Seating.{slots_of}
use Rattle.spindle_rounds.specs.SlotMembers.{IsDetachedLeader, HoldsEmpty}
use Rattle.spindle_locks.proofs.SlotMembers.{resumed, parted}
use Rattle.spindle_locks.proofs.TrayPlaces.{some_is}
use Rattle.spindle_locks.proofs.running.in_place.SlotMember+ChunkOf+J.update.Goals as goal

pub update-requires-clause-leads : goal.update-requires-clause-leads
update-requires-clause-leads g c κs within = let p = c.args.self.now in let s = c.in-Some.party in let a = c.take.ensures.value in
    let b = c.in-Some.is in let there : p.party ≡ Some s = cc in let r = c.resume-barrier.ensures in let same = c.deref-tables.ensures in
    resumed c.deref-tables.result.now c.resume-barrier.result s r.party r.barrier
    (subst (λ t. IsDetachedLeader t s) (sym same) (p.leads s there))
    (subst (λ n. HoldsEmpty n s) (sym (ap (λ t. slots_of t.round.init) same ∙ p.share.many)) (p.holds s there))

pub invariant_of-self-2 : goal.invariant_of-self-2
invariant_of-self-2 g c = let p = c.args.self.now in let same = c.deref-tables.ensures in let t = c.deref-tables.result.now in
    let h = parted t c.update.new.barrier c.part.result c.part.ensures c.update.ensures.leads in record {
      there = refl;
      leads = λ s e. subst (λ z. IsDetachedLeader z s) same (subst (λ z. IsDetachedLeader t z) (some_is e) h.0);
      holds = λ s e. subst (λ n. HoldsEmpty n s) (ap (λ z. slots_of z.round.init) same ∙ p.share.many)
          (subst (λ z. HoldsEmpty (slots_of t.round.init) z) (some_is e) h.1);
    }
