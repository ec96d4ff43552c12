-- The buffers so far are enough.
use Rattle.std.proofs.Common.{take}
use Rattle.spindle_locks.specs.InPlace.{HaveCapacity}
use Rattle.spindle_locks.proofs.pieces.chunk_buffers.are_enough.Given as goal

abbrev pub invariant-loop-buffer : goal.invariant-loop-buffer
invariant-loop-buffer g l = HaveCapacity l.items (take l.buffer-index l.buffers)
