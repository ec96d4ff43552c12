-- The ranges of the first threads are known, and their numbers marked.
use Rattle.std.proofs.Common.{◌≡◌, length}
use Rattle.spindle_rounds.specs.RoundRule.{stored_at}
use Rattle.spindle_rounds.specs.RoundShown.{deeds_of}
use Rattle.spindle_rounds.specs.RoundViews.{Onward, SharesAsBefore}
use Rattle.spindle_rounds.specs.Leftovers.{last_left}
use Rattle.spindle_rounds.proofs.Leftovers.{Found}
use Rattle.spindle_rounds.proofs.round.Round.mark_left.Given as goal

abbrev pub invariant-loop-thread : goal.invariant-loop-thread
invariant-loop-thread g l = record {
  table : l.seat.table_id ≡ l.fn.seat.table_id;
  id : l.seat.id ≡ l.fn.seat.id;
  hands : l.seat.me.1 ≡ l.fn.seat.me.1;
  on : Onward l.fn.seat.me.0 l.seat.me.0;
  same : SharesAsBefore l.fn.seat.me.0 l.seat.me.0 × (l.seat.me.0.claim ≡ l.fn.seat.me.0.claim);
  deeds : deeds_of l.seat.me.0.trail ≡ deeds_of l.fn.seat.me.0.trail;
  count : length l.marks.items ≡ length l.fn.marks.items;
  found : Found l.thread (stored_at l.seat.me.0.known.stored) (last_left l.seat.me.0.trail) l.marks.items;
}
