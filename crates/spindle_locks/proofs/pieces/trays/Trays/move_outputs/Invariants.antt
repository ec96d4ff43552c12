-- So far the outputs answer the items before the next piece, which the trays so far don't have.
use Rattle.std.proofs.Common.{◌+◌, ◌*◌, ◌≤◌}
use Rattle.spindle_locks.specs.PieceRuns.{HasAnswered}
use Rattle.spindle_locks.proofs.pieces.trays.Trays.move_outputs.Given as goal

abbrev pub invariant-loop-thread : goal.invariant-loop-thread
invariant-loop-thread g l = (l.each * l.thread ≤ l.next) × HasAnswered g.J.Job.meets l.pieces.items l.pieces.count l.next l.outputs

abbrev pub invariant-loop-thread-2 : goal.invariant-loop-thread-2
invariant-loop-thread-2 g l = (l.each * l.threads + l.thread ≤ l.next)
    × HasAnswered g.J.Job.meets l.pieces.items l.pieces.count l.next l.outputs
