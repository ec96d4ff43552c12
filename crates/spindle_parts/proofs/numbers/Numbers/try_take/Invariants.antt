-- Each number of the words read so far was read as used.
use Rattle.std.proofs.Common.{◌≡◌, ℕ}
use Rattle.spindle_parts.specs.ThreadNumbers.{IsSameSeat, reading}
use Rattle.spindle_parts.proofs.NumberSearch.{ReadTo}
use Rattle.spindle_parts.proofs.numbers.Numbers.try_take.Given as goal

abbrev pub invariant-loop-index : goal.invariant-loop-index
invariant-loop-index l = record {
  seat : IsSameSeat l.initial.seat l.seat;
  read : (found : ℕ → ℕ) × ReadTo l.self-inside.threads l.index found × (l.seat.me.0 ≡ reading found l.index l.initial.seat.me.0);
}
