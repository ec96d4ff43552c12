-- A finish tells no more of a stop.
use Rattle.std.proofs.Common.{ap}
use Rattle.spindle_rounds.specs.RoundViews.{stops_of}
use Rattle.spindle_locks_tests.proofs.round.play.finish.Goals as goal

pub returns-clause-goes_on : goal.returns-clause-goes_on
returns-clause-goes_on c = (
  c.finish.ensures.finished.0,
  (
    ap (λ m. m.0.known.seen_stop) c.finish.ensures.step,
    ap (λ m. stops_of m.0.trail) c.finish.ensures.step,
  ),
)
