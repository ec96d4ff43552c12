-- The slots before this one are empty, and stand behind the others; the items before the next piece were updated. The leader stands between two rounds.
use Rattle.std.proofs.Common.{◌≤◌, length, vec_capacity}
use Rattle.std.specs.List.{AllZip}
use Rattle.spindle_rounds.specs.Holding.{Keeps}
use Rattle.spindle_rounds.specs.SlotLoops.{IsEmpty, Turning}
use Rattle.spindle_rounds.specs.Working.{PlayedRound}
use Rattle.spindle_locks.specs.PieceRuns.{items_before}
use Rattle.spindle_locks.specs.SlotRounds.{LeadsAt}
use Rattle.spindle_locks.proofs.SlotRounds.{Held}
use Rattle.spindle_locks.proofs.running.in_place.SlotTables+PieceSlots+ChunkOf+J.update.Given as goal

abbrev pub invariant-loop-slot : goal.invariant-loop-slot
invariant-loop-slot g l = let old = l.fn.items.items in record {
  leads : LeadsAt l.self.tables.now l.barrier;
  same : Keeps l.fn.barrier l.barrier;
  played : PlayedRound l.jobs l.fn.barrier.seat.me.0 l.barrier.seat.me.0;
  hand : Turning (Held g.J.Updates.updated old l.jobs) IsEmpty l.self.slots l.slot l.barrier.seat.me.1;
  before : AllZip g.J.Updates.updated (items_before old l.jobs l.slot) l.items.items;
  room : length old ≤ vec_capacity l.items;
}
