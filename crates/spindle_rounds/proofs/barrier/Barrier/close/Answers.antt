-- The closer's two stores bring it into the next round.
use Rattle.spindle_rounds.proofs.BarrierClients.{closed_next}
use Rattle.spindle_rounds.proofs.barrier.Barrier.close.Goals as goal

pub returns-clause-next : goal.returns-clause-next
returns-clause-next g c = let k = c.requires.closer in closed_next _ _ _ k.0 k.1 k.2 c.clear.ensures.step c.end_round.ensures.step k.3
