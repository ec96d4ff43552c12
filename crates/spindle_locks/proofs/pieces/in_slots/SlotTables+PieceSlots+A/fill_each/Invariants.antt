-- The slots before this one hold their items, and stand behind the others; the items of the others wait, the next one at the end.
use Rattle.std.proofs.Common.{◌≡◌, drop, reverse, vec_capacity}
use Rattle.spindle_rounds.specs.Seating.{IsSameSeat}
use Rattle.spindle_rounds.specs.SlotHands.{WaitsAs}
use Rattle.spindle_rounds.specs.SlotLoops.{IsEmpty, Turning}
use Rattle.spindle_locks.specs.SlotPieces.{IsItemOf}
use Rattle.spindle_locks.proofs.pieces.in_slots.SlotTables+PieceSlots+A.fill_each.Given as goal

abbrev pub invariant-loop-slot : goal.invariant-loop-slot
invariant-loop-slot g l = let all = l.fn.items.items in record {
  seat : IsSameSeat l.fn.seat l.seat;
  view : l.seat.me.0 ≡ l.fn.seat.me.0;
  hand : Turning IsEmpty (WaitsAs (IsItemOf all)) l.self.slots l.slot l.seat.me.1;
  left : l.items.items ≡ reverse (drop l.slot all);
  block : vec_capacity l.items ≡ vec_capacity l.fn.items;
}
