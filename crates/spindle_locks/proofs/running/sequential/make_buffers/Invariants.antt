-- A buffer for each piece so far, and space for the others.
use Rattle.std.proofs.Common.{◌≡◌, ◌<◌, ◌≤◌, ℕ, Vec, Global, slice_index_or, vec_len, vec_capacity}
use Rattle.spindle_locks.specs.PieceRuns.{piece_at}
use Rattle.spindle_locks.specs.Reports.{IsBufferFor}
use Rattle.spindle_locks.proofs.running.sequential.make_buffers.Given as goal

abbrev pub invariant-loop-number : goal.invariant-loop-number
invariant-loop-number g l = record {
  len : vec_len l.buffers ≡ l.number;
  room : l.pieces.count ≤ vec_capacity l.buffers;
  fit : (k : ℕ) (d : Vec g.row.J-Out.Denot Global) → k < l.number
      → IsBufferFor g.J.Job.meets (piece_at l.pieces.items l.pieces.count k) (slice_index_or l.buffers.items k d);
}
