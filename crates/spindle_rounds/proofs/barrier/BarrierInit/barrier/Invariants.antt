-- Every attempt but the last was refused, which left the seat as it was.
use Rattle.spindle_rounds.specs.Seating.{IsSameSeat}
use Rattle.spindle_rounds.specs.Passing.{Stayed}
use Rattle.spindle_rounds.proofs.barrier.BarrierInit.barrier.Given as goal

abbrev pub invariant-loop : goal.invariant-loop
invariant-loop g l = IsSameSeat l.fn.seat l.seat × Stayed l.fn.seat.me l.seat.me
