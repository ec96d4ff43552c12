-- The party claims from the source, and has worked on after each claim.
use Rattle.std.proofs.Common.{◌∙◌, refl, sym, subst, inl, inr}
use Rattle.spindle_rounds.proofs.PartyWork.{went_first, went_then, went_more, still_idle, claims_at}
use Rattle.spindle_rounds.proofs.RoundOnward.{onward_same}
use Rattle.spindle_rounds.proofs.round.claimer.Claimer.run_from.Goals as goal

pub loop-init : goal.loop-init
loop-init g c = record {
  went = went_first _ _ c.args.seat.now c.requires.at;
  idle = c.requires.idle;
  holds = c.requires.holds;
  keeps = g.met.W.Work.keeps_same _ _ _ (onward_same c.args.seat.now.me.0) refl;
}

pub returns-then-sees_stop : goal.returns-then-sees_stop
returns-then-sees_stop g c = let i = c.loop.invariant in let e = c.sees_stop.ensures in record {
  went = went_then _ _ _ _ _ i.went e.went;
  idle = still_idle c.loop.seat.me.0 c.sees_stop.new.seat.me.0 i.idle e.same.0 (e.same.1 ∙ i.idle.0);
  left = inr (inl (e.seen ∙ c.if-sees_stop.true));
  holds = rw e.hands i.holds;
  keeps = g.met.W.Work.keeps_then _ _ _ _ _ _ i.keeps (g.met.W.Work.keeps_same _ _ _ e.went.on e.stops);
}

pub try_claim-requires-clause-free : goal.try_claim-requires-clause-free
try_claim-requires-clause-free g c = let i = c.loop.invariant in let e = c.sees_stop.ensures in
    claims_at _ _ c.sees_stop.new.seat e.went.at (still_idle c.loop.seat.me.0 c.sees_stop.new.seat.me.0 i.idle e.same.0 (e.same.1 ∙ i.idle.0))
    (e.seen ∙ c.if-sees_stop.false)

pub run-requires-clause-at : goal.run-requires-clause-at
run-requires-clause-at g c κs within = let e = c.sees_stop.ensures in let a = c.in-Job.ensures.taken in
    (went_more _ _ _ c.sees_stop.new.seat c.try_claim.new.seat (went_then _ _ _ _ _ c.loop.invariant.went e.went) c.try_claim.ensures.seat a.0 (λ _. a.1)).at

pub run-requires-clause-own : goal.run-requires-clause-own
run-requires-clause-own g c κs within = c.in-Job.ensures.taken.2

pub run-requires-clause-share : goal.run-requires-clause-share
run-requires-clause-share g c κs within = c.in-Job.ensures.taken.3

pub run-requires-clause-taken : goal.run-requires-clause-taken
run-requires-clause-taken g c κs within = (c.sees_stop.new.seat.me.1, rw c.sees_stop.ensures.hands c.loop.invariant.holds, c.in-Job.ensures.taken.4)

pub loop-preserved-else-run : goal.loop-preserved-else-run
loop-preserved-else-run g c = let i = c.loop.invariant in let e = c.sees_stop.ensures in let a = c.in-Job.ensures.taken in let f = c.run.ensures in record {
  went = went_then _ _ _ _ _ (went_more _ _ _ c.sees_stop.new.seat c.try_claim.new.seat (went_then _ _ _ _ _ i.went e.went) c.try_claim.ensures.seat a.0
      (λ _. a.1)) f.went;
  idle = f.idle;
  holds = f.holds;
  keeps = g.met.W.Work.keeps_then _ _ _ _ _ _ (g.met.W.Work.keeps_then _ _ _ _ _ _ i.keeps (g.met.W.Work.keeps_same _ _ _ e.went.on e.stops))
      (g.met.W.Work.keeps_then _ _ _ _ _ _ (g.met.W.Work.keeps_same _ _ _ a.0 a.1.1) f.keeps);
}

pub returns-then-run-clause-went : goal.returns-then-run-clause-went
returns-then-run-clause-went g c = let a = c.in-Job.ensures.taken in went_then _ _ _ _ _ (went_more _ _ _ c.sees_stop.new.seat c.try_claim.new.seat
    (went_then _ _ _ _ _ c.loop.invariant.went c.sees_stop.ensures.went) c.try_claim.ensures.seat a.0 (λ _. a.1)) c.run.ensures.went

pub returns-then-run-clause-left : goal.returns-then-run-clause-left
returns-then-run-clause-left g c = c.run.ensures.over c.if-run.true

pub returns-then-run-clause-keeps : goal.returns-then-run-clause-keeps
returns-then-run-clause-keeps g c = let e = c.sees_stop.ensures in let a = c.in-Job.ensures.taken in
    g.met.W.Work.keeps_then _ _ _ _ _ _ (g.met.W.Work.keeps_then _ _ _ _ _ _ c.loop.invariant.keeps (g.met.W.Work.keeps_same _ _ _ e.went.on e.stops))
    (g.met.W.Work.keeps_then _ _ _ _ _ _ (g.met.W.Work.keeps_same _ _ _ a.0 a.1.1) c.run.ensures.keeps)

pub returns-in-Nothing : goal.returns-in-Nothing
returns-in-Nothing g c = let i = c.loop.invariant in let e = c.sees_stop.ensures in let a = c.in-Nothing.ensures.taken in record {
  went = went_more _ _ _ c.sees_stop.new.seat c.try_claim.new.seat (went_then _ _ _ _ _ i.went e.went) c.try_claim.ensures.seat a.0 (λ _. a.1);
  idle = (a.2.0.2, a.2.0.3);
  left = a.4;
  holds = subst (λ h. g.W.Work.holds c.loop.work h) (sym (a.3 ∙ e.hands)) i.holds;
  keeps = g.met.W.Work.keeps_then _ _ _ _ _ _ (g.met.W.Work.keeps_then _ _ _ _ _ _ i.keeps (g.met.W.Work.keeps_same _ _ _ e.went.on e.stops))
      (g.met.W.Work.keeps_same _ _ _ a.0 a.1.1);
}

pub loop-preserved : goal.loop-preserved
loop-preserved g c = let i = c.loop.invariant in let e = c.sees_stop.ensures in let a = c.in-Again.ensures.taken in record {
  went = went_more _ _ _ c.sees_stop.new.seat c.try_claim.new.seat (went_then _ _ _ _ _ i.went e.went) c.try_claim.ensures.seat a.0 (λ _. a.1);
  idle = (a.2.0.2, a.2.0.3);
  holds = subst (λ h. g.W.Work.holds c.loop.work h) (sym (a.3 ∙ e.hands)) i.holds;
  keeps = g.met.W.Work.keeps_then _ _ _ _ _ _ (g.met.W.Work.keeps_then _ _ _ _ _ _ i.keeps (g.met.W.Work.keeps_same _ _ _ e.went.on e.stops))
      (g.met.W.Work.keeps_same _ _ _ a.0 a.1.1);
}
