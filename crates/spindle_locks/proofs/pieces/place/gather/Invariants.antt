-- So far the outputs answer the items before the next piece, the places so far held their pieces, and the others are as before.
use Rattle.std.proofs.Common.{◌≡◌, ℕ, ◌+◌, ◌≤◌}
use Rattle.std.specs.Prelude.{slice_get}
use Rattle.spindle_locks.specs.PieceRuns.{HasAnswered}
use Rattle.spindle_locks.specs.Trays.{HoldsDone}
use Rattle.spindle_locks.proofs.pieces.place.gather.Given as goal

abbrev pub invariant-loop-at : goal.invariant-loop-at
invariant-loop-at g l =
    let pieces = l.fn.pieces in
    let found = l.initial.tray.items in record {
      before : HasAnswered g.J.Job.meets pieces.items pieces.count (l.fn.number + l.at) l.outputs;
      held : HoldsDone pieces.items pieces.count l.fn.number l.fn.from l.at found;
      others : (k : ℕ) → l.fn.from + l.at ≤ k → slice_get l.tray.items k ≡ slice_get found k;
    }
