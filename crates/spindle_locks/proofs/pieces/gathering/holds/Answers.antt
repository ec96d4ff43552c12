use Rattle.std.proofs.Common.{rules}
use Rattle.spindle_locks.proofs.pieces.gathering.holds.Goals as goal

pub returns-in-None : goal.returns-in-None
returns-in-None g c = search rules
