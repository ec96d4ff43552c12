-- The numbers of a share, one after another, or back into a range.
use Rattle.std.proofs.Common.{arith, ◌∙◌, refl, sym, subst, ap, inl, inr}
use Rattle.spindle_rounds.specs.RoundConditions.{HasEmptiedAll}
use Rattle.spindle_rounds.specs.Working.{IsIdle}
use Rattle.spindle_rounds.proofs.RoundClients.{share_next}
use Rattle.spindle_rounds.proofs.PartyWork.{went_first, went_then, went_more, went_still, share_taken, over_at, over_on, done_over}
use Rattle.spindle_rounds.proofs.RoundOnward.{onward_same}
use Rattle.spindle_rounds.proofs.round.claimer.Claimer.run_share.Goals as goal

pub loop-init : goal.loop-init
loop-init g c = record {
  went = went_first _ _ c.args.seat.now c.requires.at;
  idle = c.requires.idle;
  own = c.requires.share;
  over = c.requires.over;
  holds = c.requires.holds;
  keeps = g.met.W.Work.keeps_same _ _ _ (onward_same c.args.seat.now.me.0) refl;
}

pub put_back-requires-clause-free : goal.put_back-requires-clause-free
put_back-requires-clause-free g c = let e = c.sees_stop.ensures in (e.went.at.on.0.inside, e.same.1 ∙ c.loop.invariant.idle, e.seen ∙ c.if-sees_stop.true)

pub next_of_share-requires-clause-free : goal.next_of_share-requires-clause-free
next_of_share-requires-clause-free g c = let e = c.sees_stop.ensures in (e.went.at.on.0.inside, e.same.1 ∙ c.loop.invariant.idle, e.seen ∙ c.if-sees_stop.false)

pub returns-then-sees_stop : goal.returns-then-sees_stop
returns-then-sees_stop g c = let i = c.loop.invariant in let e = c.sees_stop.ensures in let p = c.put_back.ensures in record {
  went = went_then _ _ _ _ _ (went_then _ _ _ _ _ i.went e.went) p.went;
  idle = p.idle;
  over = λ _. inr (inl p.seen);
  holds = rw (p.hands, e.hands) i.holds;
  keeps = g.met.W.Work.keeps_then _ _ _ _ _ _ (g.met.W.Work.keeps_then _ _ _ _ _ _ i.keeps (g.met.W.Work.keeps_same _ _ _ e.went.on e.stops))
      (g.met.W.Work.keeps_same _ _ _ p.went.on p.stops);
}

pub run-requires-clause-at : goal.run-requires-clause-at
run-requires-clause-at g c = let i = c.loop.invariant in let e = c.sees_stop.ensures in let a = c.sees_stop.new.seat in let b = c.next_of_share.new.seat in
    let n = share_next g.D.SlotContents.discipline a.me b.me _ _ c.loop.share c.next_of_share.new.share
    (e.went.at.on.0.inside, e.same.1 ∙ i.idle, e.seen ∙ c.if-sees_stop.false)
    (i.own.0 ∙ sym e.same.0.0, i.own.1 ∙ sym e.same.0.1) c.in-Some-next_of_share.ensures.step in
    (went_more _ _ _ a b (went_then _ _ _ _ _ i.went e.went) c.next_of_share.ensures.seat n.0 (λ _. n.1)).at

pub run-requires-clause-taken : goal.run-requires-clause-taken
run-requires-clause-taken g c = share_taken g.D.SlotContents.discipline (λ h.
    g.W.Work.holds c.loop.work h) c.sees_stop.new.seat.me c.next_of_share.new.seat.me _ _ c.loop.share c.next_of_share.new.share
    c.in-Some-next_of_share.ensures.step (rw c.sees_stop.ensures.hands c.loop.invariant.holds)

pub loop-preserved : goal.loop-preserved
loop-preserved g c = let i = c.loop.invariant in let e = c.sees_stop.ensures in let f = c.run.ensures in let a = c.sees_stop.new.seat in
    let b = c.next_of_share.new.seat in let n = share_next g.D.SlotContents.discipline a.me b.me _ _ c.loop.share c.next_of_share.new.share
    (e.went.at.on.0.inside, e.same.1 ∙ i.idle, e.seen ∙ c.if-sees_stop.false)
    (i.own.0 ∙ sym e.same.0.0, i.own.1 ∙ sym e.same.0.1) c.in-Some-next_of_share.ensures.step in
    let claimed = went_more _ _ _ a b (went_then _ _ _ _ _ i.went e.went) c.next_of_share.ensures.seat n.0 (λ _. n.1) in record {
      went = went_more _ _ _ b c.run.new.seat claimed f.seat f.finished.0 f.finished.1;
      idle = f.finished.3;
      own = (n.3.0 ∙ sym f.finished.2.0, n.3.1 ∙ sym f.finished.2.1);
      over = λ e. over_at _ _ b c.run.new.seat c.run.result claimed.at f.finished (c.is_last-is_over.ensures e);
      holds = f.holds;
      keeps = g.met.W.Work.keeps_then _ _ _ _ _ _ (g.met.W.Work.keeps_then _ _ _ _ _ _ i.keeps (g.met.W.Work.keeps_same _ _ _ e.went.on e.stops))
          (g.met.W.Work.keeps_then _ _ _ _ _ _ (g.met.W.Work.keeps_same _ _ _ n.0 n.1.1) f.keeps);
    }

pub returns-in-None-next_of_share : goal.returns-in-None-next_of_share
returns-in-None-next_of_share g c = let i = c.loop.invariant in let e = c.sees_stop.ensures in let step = c.in-None-next_of_share.ensures.step in
    let own = i.own in let same = e.same.0 in let empty = step.2 in
    let idle : IsIdle c.sees_stop.new.seat.me.0 = (e.same.1 ∙ i.idle, (let x = own.0 in let y = own.1 in let p = same.0 in let q = same.1 in omega arith)) in
    let went = went_still _ _ _ c.sees_stop.new.seat c.next_of_share.new.seat (went_then _ _ _ _ _ i.went e.went) c.next_of_share.ensures.seat step.0 in
    record {
      went = went;
      idle = subst (λ m. IsIdle m.0) (sym step.0) idle;
      over = λ over. done_over _ _ c.next_of_share.new.seat went.at
          (subst (λ m. HasEmptiedAll m.0) (sym step.0) (over_on c.loop.seat.me.0 c.sees_stop.new.seat.me.0 e.went.on (i.over over)));
      holds = subst (λ h. g.W.Work.holds c.loop.work h) (sym (ap (λ m. m.1) step.0 ∙ e.hands)) i.holds;
      keeps = subst (λ m. g.W.Work.keeps c.args.work.now c.args.seat.now.me.0 c.loop.work m.0) (sym step.0)
          (g.met.W.Work.keeps_then _ _ _ _ _ _ i.keeps (g.met.W.Work.keeps_same _ _ _ e.went.on e.stops));
    }
