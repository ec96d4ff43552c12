-- The party has worked on, and may claim again.
use Rattle.spindle_rounds.specs.Working.{IsIdle}
use Rattle.spindle_rounds.specs.PartyWork.{WentOn}
use Rattle.spindle_rounds.proofs.round.claimer.Claimer.run_from.Given as goal

abbrev pub invariant-loop : goal.invariant-loop
invariant-loop g l = record {
  went : WentOn l.self.round.now l.self.published l.fn.seat l.seat;
  idle : IsIdle l.seat.me.0;
  holds : g.W.Work.holds l.work l.seat.me.1;
  keeps : g.W.Work.keeps l.fn.work l.fn.seat.me.0 l.work l.seat.me.0;
}
