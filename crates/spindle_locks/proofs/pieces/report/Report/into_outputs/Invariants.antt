-- The outputs of the pieces so far.
use Rattle.std.proofs.Common.{◌≡◌}
use Rattle.spindle_locks.specs.Reports.{outputs_of}
use Rattle.spindle_locks.proofs.pieces.report.Report.into_outputs.Given as goal

abbrev pub invariant-loop-piece : goal.invariant-loop-piece
invariant-loop-piece g l = l.all.items ≡ outputs_of l.yielded
