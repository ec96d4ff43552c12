-- The slots before this one are empty, and stand behind the others.
use Rattle.std.proofs.Common.{◌≡◌}
use Rattle.spindle_rounds.specs.Seating.{IsSameSeat}
use Rattle.spindle_rounds.specs.SlotLoops.{IsAny, IsEmpty, Turning}
use Rattle.spindle_rounds.proofs.round.pieces.Round+PieceSlots+A.empty_slots.Given as goal

abbrev pub invariant-loop-slot : goal.invariant-loop-slot
invariant-loop-slot g l = record {
  seat : IsSameSeat l.fn.seat l.seat;
  view : l.seat.me.0 ≡ l.fn.seat.me.0;
  hand : Turning IsAny IsEmpty l.slots l.slot l.seat.me.1;
}
