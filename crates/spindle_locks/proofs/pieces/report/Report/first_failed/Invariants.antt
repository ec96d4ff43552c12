-- No piece so far has failed.
use Rattle.std.specs.Prelude.{take}
use Rattle.spindle_locks.specs.Reports.{NoneFailed}
use Rattle.spindle_locks.proofs.pieces.report.Report.first_failed.Given as goal

abbrev pub invariant-loop-piece : goal.invariant-loop-piece
invariant-loop-piece g l = NoneFailed g.J.Job.fails (take l.piece-index l.self.ran.items)
