-- So far it neither saw the end nor left, and made one turn for each answer.
use Rattle.std.proofs.Common.{ℕ, List}
use Rattle.spindle_rounds.specs.Holding.{Keeps}
use Rattle.spindle_rounds.specs.Passing.{Stayed, Turned}
use Rattle.spindle_rounds.proofs.barrier.Barrier.await_end_while.Given as goal

abbrev pub invariant-loop : goal.invariant-loop
invariant-loop g l = goal.F-IsAlwaysCallable g l.requests × (Keeps l.fn.self l.barrier × Stayed l.fn.self.seat.me l.barrier.seat.me)
    × ((ns : List ℕ) × Turned (λ f n h. goal.F-step g f n h) l.fn.self.sense ns l.fn.requests l.requests l.fn.self.seat.me l.barrier.seat.me)
