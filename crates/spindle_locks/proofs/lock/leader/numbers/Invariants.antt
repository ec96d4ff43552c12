-- The numbers so far, and room for the others.
use Rattle.std.proofs.Common.{◌≡◌, vec_len, vec_capacity, ◌≤◌}
use Rattle.spindle_parts.specs.Pieces.{counted}
use Rattle.spindle_locks.proofs.lock.leader.numbers.Given as goal

abbrev pub invariant-loop-number : goal.invariant-loop-number
invariant-loop-number l = record {
  items : l.numbers.items ≡ counted 0 l.number;
  len : vec_len l.numbers ≡ l.number;
  room : l.count ≤ vec_capacity l.numbers;
}
