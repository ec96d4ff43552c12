-- The ranges before the i-th were read, and the longest of them is known.
use Rattle.std.proofs.Common.{◌≡◌}
use Rattle.spindle_rounds.specs.RoundAnswers.{ReadAll}
use Rattle.spindle_rounds.proofs.round.Round.longest.Given as goal

abbrev pub invariant-loop-i : goal.invariant-loop-i
invariant-loop-i g l = (l.seat.table_id ≡ l.fn.seat.table_id) × (l.seat.id ≡ l.fn.seat.id) × ReadAll l.i l.thread l.range l.fn.seat.me l.seat.me
