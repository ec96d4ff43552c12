-- A load leaves the books as they are.
use Rattle.std.proofs.Common.{rules, arith}
use Rattle.spindle_parts.proofs.LedgerMoves.{loads}
use Rattle.spindle_parts.proofs.requests.Requests.load.Goals as goal

pub load-requires : goal.load-requires
load-requires c = (search rules, omega (arith, c.requires.word), loads _ _ _ _ _)
