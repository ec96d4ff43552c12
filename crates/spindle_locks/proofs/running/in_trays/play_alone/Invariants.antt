-- The pieces before this one are answered.
use Rattle.spindle_locks.specs.PieceRuns.{HasAnswered}
use Rattle.spindle_locks.proofs.running.in_trays.play_alone.Given as goal

abbrev pub invariant-loop-number : goal.invariant-loop-number
invariant-loop-number g l = HasAnswered g.J.Job.meets l.pieces.items l.pieces.count l.number l.outputs
