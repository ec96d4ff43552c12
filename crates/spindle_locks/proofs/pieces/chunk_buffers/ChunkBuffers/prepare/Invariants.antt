-- So far buffers are ready, one a chunk.
use Rattle.std.proofs.Common.{◌≡◌, ◌≤◌, ◌/◌, ◌+◌, [], vec_len, vec_capacity}
use Rattle.spindle_locks.specs.InPlace.{HaveCapacity}
use Rattle.spindle_locks.proofs.pieces.chunk_buffers.ChunkBuffers.prepare.Given as goal

abbrev pub invariant-loop : goal.invariant-loop
invariant-loop g l = record {
  buffers : HaveCapacity (l.len / l.jobs + 1) l.self.ready.items;
  many : vec_len l.self.ready ≡ l.counter;
  room : l.jobs ≤ vec_capacity l.self.ready;
  none : l.self.chunks.items ≡ [];
  places : l.jobs ≤ vec_capacity l.self.chunks;
}
