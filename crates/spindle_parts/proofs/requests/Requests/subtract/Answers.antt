-- The step takes requests back, at most the seat's credit.
use Rattle.std.proofs.Common.{rules, arith}
use Rattle.spindle_parts.proofs.LedgerMoves.{subtracts}
use Rattle.spindle_parts.proofs.requests.Requests.subtract.Goals as goal

pub fetch_sub-requires : goal.fetch_sub-requires
fetch_sub-requires c = (search rules, omega arith, subtracts _ _ _ _ _ (omega arith) c.requires.credit)
