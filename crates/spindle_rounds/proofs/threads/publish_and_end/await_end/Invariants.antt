-- So far no look has seen the end.
use Rattle.spindle_rounds.specs.Holding.{Keeps}
use Rattle.spindle_rounds.specs.Passing.{Stayed}
use Rattle.spindle_rounds.proofs.threads.publish_and_end.await_end.Given as goal

abbrev pub invariant-loop : goal.invariant-loop
invariant-loop g l = Keeps l.fn.barrier l.barrier × Stayed l.fn.barrier.seat.me l.barrier.seat.me
