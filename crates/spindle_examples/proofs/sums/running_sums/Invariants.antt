-- The sums up to here.
use Rattle.std.proofs.Common.{◌≡◌, ◌+◌, ◌≤◌, sum, take, length, vec_len, vec_capacity}
use Rattle.spindle_examples.specs.Prefix.{running}
use Rattle.spindle_examples.specs.Wrapping.{wrapped}
use Rattle.spindle_examples.proofs.sums.running_sums.Given as goal

abbrev pub invariant-loop-value : goal.invariant-loop-value
invariant-loop-value l = record {
  sums : l.sums.items ≡ running l.start (take l.value-index l.values);
  total : l.total ≡ wrapped (l.start + sum (take l.value-index l.values));
  count : vec_len l.sums ≡ l.value-index;
  room : length l.values ≤ vec_capacity l.sums;
}
