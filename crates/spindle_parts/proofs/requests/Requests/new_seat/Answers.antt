-- A seat more is one of a thread that has made no step.
use Rattle.std.proofs.Common.{rules, arith}
use Rattle.spindle_parts.proofs.LedgerMoves.{splits}
use Rattle.spindle_parts.proofs.requests.Requests.new_seat.Goals as goal

pub split_seat-requires : goal.split_seat-requires
split_seat-requires c = (search rules, omega arith, splits _ _ _)
