-- The last pieces are chunks, and the items before them are left.
use Rattle.std.proofs.Common.{◌≡◌, ◌≤◌, ◌/◌, ◌+◌, ◌-◌, vec_len, vec_capacity}
use Rattle.spindle_locks.specs.InPlace.{HaveCapacity, last_pieces}
use Rattle.spindle_locks.specs.PieceRuns.{piece_start, items_before}
use Rattle.spindle_locks.proofs.pieces.chunk_buffers.ChunkBuffers.load.Given as goal

abbrev pub invariant-loop-done : goal.invariant-loop-done
invariant-loop-done g l = let old = l.fn.items in record {
  items : l.items.items ≡ items_before old.items l.jobs (l.jobs - l.done);
  len : vec_len l.items ≡ piece_start (vec_len old) l.jobs (l.jobs - l.done);
  block : vec_capacity l.items ≡ vec_capacity old;
  chunks : l.self.chunks.items ≡ last_pieces old.items l.jobs l.done;
  room : l.jobs ≤ vec_capacity l.self.chunks;
  chunked : vec_len l.self.chunks ≡ l.done;
  buffers : HaveCapacity (vec_len old / l.jobs + 1) l.self.ready.items;
  ready : vec_len l.self.ready + l.done ≡ l.jobs;
}
