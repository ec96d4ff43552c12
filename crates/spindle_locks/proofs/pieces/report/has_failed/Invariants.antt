-- No output so far is a failure.
use Rattle.std.specs.Prelude.{take}
use Rattle.std.specs.List.{All}
use Rattle.spindle_locks.proofs.pieces.report.has_failed.Given as goal

abbrev pub invariant-loop-output : goal.invariant-loop-output
invariant-loop-output g l = All (λ output. g.J.Job.fails output → ⊥) (take l.output-index l.outputs)
