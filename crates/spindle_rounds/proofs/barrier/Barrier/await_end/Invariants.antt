-- So far no look has seen the end.
use Rattle.spindle_rounds.specs.Holding.{Keeps}
use Rattle.spindle_rounds.specs.Passing.{Stayed}
use Rattle.spindle_rounds.proofs.barrier.Barrier.await_end.Given as goal

abbrev pub invariant-loop : goal.invariant-loop
invariant-loop g l = Keeps l.initial.self l.self × Stayed l.initial.self.seat.me l.self.seat.me
