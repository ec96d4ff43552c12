-- Whatever has failed of the pieces to come, with the numbers so far it is what has failed of all.
use Rattle.std.specs.Prelude.{ℕ, List, ◌++◌, drop}
use Rattle.spindle_locks.specs.Reports.{AreFailed}
use Rattle.spindle_locks.proofs.pieces.report.Report.failed.Given as goal

abbrev pub invariant-loop-piece : goal.invariant-loop-piece
invariant-loop-piece g l = (others : List ℕ) → AreFailed g.J.Job.fails (drop l.piece-index l.self.ran.items) others
    → AreFailed g.J.Job.fails l.self.ran.items (l.numbers.items ++ others)
