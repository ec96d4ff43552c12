-- The slots before this one hold their pieces, and stand behind the others.
use Rattle.std.proofs.Common.{◌≡◌}
use Rattle.spindle_rounds.specs.Seating.{IsSameSeat}
use Rattle.spindle_rounds.specs.SlotHands.{WaitsAs}
use Rattle.spindle_rounds.specs.SlotLoops.{IsEmpty, Turning}
use Rattle.spindle_locks.specs.SlotPieces.{IsPieceOf}
use Rattle.spindle_locks.proofs.pieces.in_slots.SlotTables+PieceSlots+PieceOf+J.fill_runs.Given as goal

abbrev pub invariant-loop-slot : goal.invariant-loop-slot
invariant-loop-slot g l = record {
  seat : IsSameSeat l.fn.seat l.seat;
  view : l.seat.me.0 ≡ l.fn.seat.me.0;
  hand : Turning IsEmpty (WaitsAs (IsPieceOf l.pieces.items l.pieces.count)) l.self.slots l.slot l.seat.me.1;
}
