-- What is left of a share is the seat's, number by number.
use Rattle.std.proofs.Common.{arith, ◌∙◌, ap, sym, subst}
use Rattle.spindle_rounds.specs.RoundSlots.{bare}
use Rattle.spindle_rounds.specs.RoundViews.{Onward, stops_of}
use Rattle.spindle_rounds.proofs.RoundClients.{share_next}
use Rattle.spindle_rounds.proofs.RoundOnward.{onward_then}
use Rattle.spindle_locks_tests.proofs.round.play.spend.Goals as goal
use Rattle.spindle_locks_tests.proofs.round.play.spend.Goals.{in-Some, in-None}

pub loop-i-preserved : goal.loop-i-preserved
loop-i-preserved c = let f = c.loop-i.invariant in let v = c.args.seat.now.me.0 in let a = c.loop-i.seat.me in let b = c.next_of_share.new.seat.me in
    let free = c.requires.free in let here = f.from in let end_is = f.to in
    elim c.match-next_of_share.branch [
      | in-Some w ↦ (let step = w.in-Some.ensures.step in let n = share_next bare a b _ _ c.loop-i.share c.next_of_share.new.share
          ((free.0.0, f.on.standing ∙ free.0.1), f.idle, f.sees.0 ∙ free.2) f.own step in let z = w.finish.new.seat.me.0 in let e = w.finish.ensures in
          let k_is = step.3 in let next = step.5 in record {
            table = ap (λ s. s.table_id) w.seat-is ∙ (e.seat.0 ∙ (c.next_of_share.ensures.seat.0 ∙ f.table));
            id = ap (λ s. s.id) w.seat-is ∙ (e.seat.1 ∙ (c.next_of_share.ensures.seat.1 ∙ f.id));
            on = subst (λ s. Onward v s.me.0) (sym w.seat-is) (onward_then v a.0 z f.on (onward_then a.0 b.0 z n.0 e.goes_on.0));
            sees = (
              ap (λ s. s.me.0.known.seen_stop) w.seat-is ∙ (e.goes_on.1.0 ∙ (n.1.0 ∙ f.sees.0)),
              ap (λ s. stops_of s.me.0.trail) w.seat-is ∙ (e.goes_on.1.1 ∙ (n.1.1 ∙ f.sees.1)),
            );
            idle = ap (λ s. s.me.0.claim) w.seat-is ∙ e.share.1;
            own = (n.3.0 ∙ (sym e.share.0.0 ∙ sym (ap (λ s. s.me.0.from) w.seat-is)), n.3.1 ∙ (sym e.share.0.1 ∙ sym (ap (λ s. s.me.0.to) w.seat-is)));
            from = omega arith;
            to = step.6 ∙ f.to;
          })
      | in-None w ↦ (let step = w.in-None.ensures.step in let empty = step.2 in let lt = c.loop-i-test.true in absurd (omega arith))
    ]
