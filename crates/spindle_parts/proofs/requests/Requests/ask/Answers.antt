-- The step asks for helpers.
use Rattle.std.proofs.Common.{rules, arith}
use Rattle.spindle_parts.proofs.LedgerMoves.{asks}
use Rattle.spindle_parts.proofs.requests.Requests.ask.Goals as goal

pub fetch_add-requires : goal.fetch_add-requires
fetch_add-requires c = (search rules, omega arith, asks _ _ _ _ _)
