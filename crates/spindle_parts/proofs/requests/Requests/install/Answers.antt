-- The step opens places in a slot, at most the seat's credit.
use Rattle.std.proofs.Common.{rules, arith}
use Rattle.spindle_parts.proofs.LedgerMoves.{installs}
use Rattle.spindle_parts.proofs.requests.Requests.install.Goals as goal

pub fetch_add-requires : goal.fetch_add-requires
fetch_add-requires c = (search rules, omega (arith, c.requires.slot), installs _ _ _ _ _ _ c.requires.slot c.requires.credit)
