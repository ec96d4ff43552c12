-- The share isn't back yet.
use Rattle.std.proofs.Common.{◌≡◌, ◌<◌}
use Rattle.spindle_rounds.specs.RoundConditions.{IsItsShare, MayPutBack}
use Rattle.spindle_rounds.specs.PartyWork.{WentOn}
use Rattle.spindle_rounds.specs.RoundViews.{StopsAsBefore}
use Rattle.spindle_rounds.proofs.round.claimer.Claimer.put_back.Given as goal

abbrev pub invariant-loop : goal.invariant-loop
invariant-loop g l = record {
  went : WentOn l.self.round.now l.self.published l.fn.seat l.seat;
  may : MayPutBack l.seat.me.0;
  own : IsItsShare l.share l.seat.me.0;
  stops : StopsAsBefore l.fn.seat.me.0 l.seat.me.0;
  hands : l.seat.me.1 ≡ l.fn.seat.me.1;
  turn : l.turn < l.self.round.now.init.threads;
}
