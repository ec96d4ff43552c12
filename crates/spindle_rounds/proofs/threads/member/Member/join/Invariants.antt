-- Every attempt so far found the barrier full, which left the seat as it was.
use Rattle.spindle_rounds.specs.Passing.{Stayed}
use Rattle.spindle_rounds.specs.Seating.{IsSameSeat}
use Rattle.spindle_rounds.proofs.threads.member.Member.join.Given as goal

abbrev pub invariant-loop : goal.invariant-loop
invariant-loop g l = record {
  same : IsSameSeat l.fn.seat l.seat;
  stayed : Stayed l.fn.seat.me l.seat.me;
}
