-- The exchange takes a place of the slot.
use Rattle.std.proofs.Common.{rules, arith}
use Rattle.spindle_parts.proofs.LedgerMoves.{takes}
use Rattle.spindle_parts.proofs.requests.Requests.exchange_place.Goals as goal

pub compare_exchange-requires : goal.compare_exchange-requires
compare_exchange-requires c = (search rules, omega (arith, c.requires.slot), takes _ _ _ _ _ _ c.requires.slot c.requires.positive)
