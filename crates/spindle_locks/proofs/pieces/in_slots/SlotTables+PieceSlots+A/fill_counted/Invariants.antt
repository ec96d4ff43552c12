-- The slots before this one hold their numbers, and stand behind the others.
use Rattle.std.proofs.Common.{◌≡◌}
use Rattle.spindle_parts.specs.Pieces.{counted}
use Rattle.spindle_rounds.specs.Seating.{IsSameSeat}
use Rattle.spindle_rounds.specs.SlotHands.{WaitsAs}
use Rattle.spindle_rounds.specs.SlotLoops.{IsEmpty, Turning}
use Rattle.spindle_locks.specs.SlotPieces.{IsItemOf}
use Rattle.spindle_locks.proofs.pieces.in_slots.SlotTables+PieceSlots+A.fill_counted.Given as goal

abbrev pub invariant-loop-slot : goal.invariant-loop-slot
invariant-loop-slot g l = record {
  seat : IsSameSeat l.fn.seat l.seat;
  view : l.seat.me.0 ≡ l.fn.seat.me.0;
  hand : Turning IsEmpty (WaitsAs (IsItemOf (counted 0 l.count))) l.self.slots l.slot l.seat.me.1;
}
