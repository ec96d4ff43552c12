-- The slots before this one are empty, and stand behind the others; their outputs answer the items before the next piece. The leader stands between two rounds.
use Rattle.std.proofs.Common.{◌≤◌, length, vec_capacity}
use Rattle.std.specs.List.{AllZip}
use Rattle.spindle_rounds.specs.Holding.{Keeps}
use Rattle.spindle_rounds.specs.SlotLoops.{IsEmpty, Turning}
use Rattle.spindle_rounds.specs.Working.{PlayedRound}
use Rattle.spindle_locks.specs.PieceRuns.{items_before}
use Rattle.spindle_locks.specs.SlotRounds.{LeadsAt}
use Rattle.spindle_locks.proofs.SlotRounds.{Held}
use Rattle.spindle_locks.proofs.running.over_lists.SlotTables+PieceSlots+PieceOf+J.play.Given as goal

abbrev pub invariant-loop-slot : goal.invariant-loop-slot
invariant-loop-slot g l = let all = g.S.FillsSlots.items l.fn.items in record {
  leads : LeadsAt l.self.tables.now l.barrier;
  same : Keeps l.fn.barrier l.barrier;
  played : PlayedRound l.pieces l.fn.barrier.seat.me.0 l.barrier.seat.me.0;
  hand : Turning (Held g.J.Job.meets all l.pieces) IsEmpty l.self.slots l.slot l.barrier.seat.me.1;
  before : AllZip g.J.Job.meets (items_before all l.pieces l.slot) l.outputs.items;
  room : length all ≤ vec_capacity l.outputs;
}
