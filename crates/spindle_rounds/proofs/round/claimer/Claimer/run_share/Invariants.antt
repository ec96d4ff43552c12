-- What is left of the share is the seat's.
use Rattle.std.proofs.Common.{◌≡◌, None, true}
use Rattle.spindle_rounds.specs.RoundConditions.{IsItsShare, HasEmptiedAll}
use Rattle.spindle_rounds.specs.PartyWork.{WentOn}
use Rattle.spindle_rounds.proofs.round.claimer.Claimer.run_share.Given as goal

abbrev pub invariant-loop : goal.invariant-loop
invariant-loop g l = record {
  went : WentOn l.self.round.now l.self.published l.fn.seat l.seat;
  idle : l.seat.me.0.claim ≡ None;
  own : IsItsShare l.share l.seat.me.0;
  over : l.is_over ≡ true → HasEmptiedAll l.seat.me.0;
  holds : g.W.Work.holds l.work l.seat.me.1;
  keeps : g.W.Work.keeps l.fn.work l.fn.seat.me.0 l.work l.seat.me.0;
}
