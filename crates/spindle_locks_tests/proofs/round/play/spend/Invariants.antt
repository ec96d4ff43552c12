-- What is left of the share starts at the loop's number.
use Rattle.std.proofs.Common.{◌≡◌, None}
use Rattle.spindle_rounds.specs.RoundConditions.{IsItsShare}
use Rattle.spindle_rounds.specs.RoundViews.{Onward, SeesAsBefore}
use Rattle.spindle_locks_tests.proofs.round.play.spend.Given as goal

abbrev pub invariant-loop-i : goal.invariant-loop-i
invariant-loop-i l = record {
  table : l.seat.table_id ≡ l.fn.seat.table_id;
  id : l.seat.id ≡ l.fn.seat.id;
  on : Onward l.fn.seat.me.0 l.seat.me.0;
  sees : SeesAsBefore l.fn.seat.me.0 l.seat.me.0;
  idle : l.seat.me.0.claim ≡ None;
  own : IsItsShare l.share l.seat.me.0;
  from : l.share.from ≡ l.i;
  to : l.share.to ≡ l.to;
}
