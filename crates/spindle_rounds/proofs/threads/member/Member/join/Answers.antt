-- A join that finds the barrier full leaves the seat as it was.
use Rattle.std.proofs.Common.{◌∙◌}
use Rattle.spindle_rounds.proofs.BarrierClients.{stayed_on, join_full}
use Rattle.spindle_rounds.proofs.threads.member.Member.join.Goals as goal

pub loop-preserved : goal.loop-preserved
loop-preserved g c = let i = c.loop.invariant in let e = c.in-Err.ensures.full in let m = c.args.seat.me in let v = c.loop.seat.me in
    let w = c.in-Err.full.seat.me in let u = e.1.0 in record {
      same = (e.0.0 ∙ i.same.0, e.0.1 ∙ i.same.1);
      stayed = stayed_on m v w i.stayed (stayed_on v u w e.1.1 (join_full u w e.1.2));
    }
