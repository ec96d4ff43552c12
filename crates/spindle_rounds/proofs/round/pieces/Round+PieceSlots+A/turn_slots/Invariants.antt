-- As many turns were made as the loop has come far, and the rest are still to be made.
use Rattle.std.proofs.Common.{◌≡◌, ◌-◌}
use Rattle.spindle_rounds.specs.Seating.{IsSameSeat}
use Rattle.spindle_rounds.specs.SlotHands.{turned_by}
use Rattle.spindle_rounds.proofs.round.pieces.Round+PieceSlots+A.turn_slots.Given as goal

abbrev pub invariant-loop : goal.invariant-loop
invariant-loop g l = record {
  seat : IsSameSeat l.fn.seat l.seat;
  view : l.seat.me.0 ≡ l.fn.seat.me.0;
  left : turned_by (l.slots - l.counter) l.seat.me.1 ≡ turned_by (l.slots - l.from) l.fn.seat.me.1;
}
