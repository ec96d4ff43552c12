-- A seat more has no number.
use Rattle.std.proofs.Common.{rules, arith}
use Rattle.spindle_parts.proofs.NumbersKept.{splits}
use Rattle.spindle_parts.proofs.numbers.Numbers.new_seat.Goals as goal

pub split_seat-requires : goal.split_seat-requires
split_seat-requires c = (search rules, omega (arith, c.self.invariant), splits _ _ _)
