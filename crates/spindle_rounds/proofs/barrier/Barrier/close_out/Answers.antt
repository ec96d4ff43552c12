-- The closer's two stores leave one that had exited outside.
use Rattle.spindle_rounds.proofs.BarrierClients.{closed_out}
use Rattle.spindle_rounds.proofs.barrier.Barrier.close_out.Goals as goal

pub returns-clause-out : goal.returns-clause-out
returns-clause-out g c = let k = c.requires.closer in closed_out _ _ _ k.0 k.1 k.2 c.clear.ensures.step c.end_round.ensures.step k.3
