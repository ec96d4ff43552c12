-- What is ready becomes less by one buffer a turn.
use Rattle.std.proofs.Common.{◌≡◌, ◌+◌, vec_len}
use Rattle.spindle_locks.proofs.pieces.chunk_buffers.ChunkBuffers.put_aside.Given as goal

abbrev pub invariant-loop : goal.invariant-loop
invariant-loop g l = record {
  left : vec_len l.self.ready + l.counter ≡ vec_len l.fn.self.ready;
  chunks : l.self.chunks ≡ l.fn.self.chunks;
}
