-- So far each place holds its piece.
use Rattle.std.proofs.Common.{take}
use Rattle.spindle_locks.specs.Outputs.{HoldAll}
use Rattle.spindle_locks.proofs.pieces.gathering.gather.Given as goal

abbrev pub invariant-loop-k : goal.invariant-loop-k
invariant-loop-k g l = HoldAll (take l.k l.handed) (take l.k l.places.items)
