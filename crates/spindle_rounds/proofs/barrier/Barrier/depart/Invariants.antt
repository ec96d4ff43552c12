-- Other steps came between all attempts so far.
use Rattle.spindle_rounds.specs.Holding.{Keeps}
use Rattle.spindle_rounds.specs.Passing.{Stayed}
use Rattle.spindle_rounds.proofs.barrier.Barrier.depart.Given as goal

abbrev pub invariant-loop : goal.invariant-loop
invariant-loop g l = Keeps l.fn.self l.barrier × Stayed l.fn.self.seat.me l.barrier.seat.me
