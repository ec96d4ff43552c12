-- The swap closes the slot.
use Rattle.std.proofs.Common.{rules, arith}
use Rattle.spindle_parts.proofs.LedgerMoves.{closes}
use Rattle.spindle_parts.proofs.requests.Requests.close.Goals as goal

pub swap-requires : goal.swap-requires
swap-requires c = (search rules, omega (arith, c.requires.slot), closes _ _ _ _ _ c.requires.slot)

pub returns-clause-step : goal.returns-clause-step
returns-clause-step c = search rules
