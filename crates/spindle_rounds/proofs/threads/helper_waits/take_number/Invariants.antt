-- Until now the seat has no number.
use Rattle.std.proofs.Common.{◌≡◌}
use Rattle.spindle_parts.specs.ThreadNumbers.{IsSeatOf, IsSameSeat}
use Rattle.spindle_parts.specs.declared.numbers.plays.Holding.TheVariants.{Nothing}
use Rattle.spindle_rounds.proofs.threads.helper_waits.take_number.Given as goal

abbrev pub invariant-loop : goal.invariant-loop
invariant-loop g l = IsSeatOf l.fn.numbers l.seat × (l.seat.me.0.holding ≡ Nothing) × IsSameSeat l.initial.seat l.seat
