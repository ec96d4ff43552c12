-- A join that is refused for a moment leaves the seat as it was.
use Rattle.std.proofs.Common.{refl, ◌∙◌}
use Rattle.spindle_rounds.proofs.BarrierClients.{refused_stays, refused_on, stayed_first}
use Rattle.spindle_rounds.proofs.barrier.BarrierInit.barrier.Goals as goal

pub loop-init : goal.loop-init
loop-init g c = ((refl, refl), stayed_first _)

pub returns-in-Ok-clause-joined : goal.returns-in-Ok-clause-joined
returns-in-Ok-clause-joined g c = let i = c.loop.invariant in let e = c.in-Ok.ensures.joined in ((c.loop.seat.me, i.1, e.0), (e.1.0 ∙ i.0.1, e.1.1))

pub loop-preserved : goal.loop-preserved
loop-preserved g c = let next = c.in_ok-seat-in-Err in refused_on c.args.seat c.loop.seat next.seat c.loop.invariant
    (refused_stays c.loop.seat next.seat c.in-Err.refused next.ensures.again c.in-Err.ensures.refused)
