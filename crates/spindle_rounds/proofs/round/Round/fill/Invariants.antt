-- The words of the first ranges stand.
use Rattle.std.proofs.Common.{◌≡◌, ◌+◌}
use Rattle.spindle_rounds.specs.RoundAnswers.{filled_view}
use Rattle.spindle_rounds.proofs.round.Round.fill.Given as goal

abbrev pub invariant-loop-i : goal.invariant-loop-i
invariant-loop-i g l = (l.seat.table_id ≡ l.fn.seat.table_id) × (l.seat.id ≡ l.fn.seat.id) × (l.seat.me.1 ≡ l.fn.seat.me.1) ×
    (l.seat.me.0 ≡ filled_view l.fn.self.init.threads l.fn.jobs (3 + l.i) l.fn.seat.me.0)
