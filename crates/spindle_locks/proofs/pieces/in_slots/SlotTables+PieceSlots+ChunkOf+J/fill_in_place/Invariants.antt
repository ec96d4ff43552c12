-- The slots before this one hold their chunks, and the others wait, the next one at the end.
use Rattle.std.proofs.Common.{◌≡◌, ◌-◌}
use Rattle.spindle_rounds.specs.Seating.{IsSameSeat}
use Rattle.spindle_rounds.specs.SlotHands.{WaitsAs}
use Rattle.spindle_rounds.specs.SlotLoops.{IsEmpty, Turning}
use Rattle.spindle_locks.specs.InPlace.{last_pieces}
use Rattle.spindle_locks.specs.SlotPieces.{IsPieceOf}
use Rattle.spindle_locks.proofs.pieces.in_slots.SlotTables+PieceSlots+ChunkOf+J.fill_in_place.Given as goal

abbrev pub invariant-loop-slot : goal.invariant-loop-slot
invariant-loop-slot g l = record {
  seat : IsSameSeat l.fn.seat l.seat;
  view : l.seat.me.0 ≡ l.fn.seat.me.0;
  hand : Turning IsEmpty (WaitsAs (IsPieceOf l.fn.items.items l.jobs)) l.self.slots l.slot l.seat.me.1;
  chunks : l.buffers.chunks.items ≡ last_pieces l.fn.items.items l.jobs (l.jobs - l.slot);
}
