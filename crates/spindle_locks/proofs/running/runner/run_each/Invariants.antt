-- The outputs so far answer the items so far.
use Rattle.std.proofs.Common.{◌≡◌, ◌+◌, take, vec_len, vec_capacity}
use Rattle.spindle_locks.specs.Rounds.{AddsAnswers}
use Rattle.spindle_locks.proofs.running.runner.run_each.Given as goal

abbrev pub invariant-loop-item : goal.invariant-loop-item
invariant-loop-item g l = record {
  answered : AddsAnswers g.J.Job.meets (take l.item-index l.items) l.fn.outputs.items l.outputs.items;
  len : vec_len l.outputs ≡ vec_len l.fn.outputs + l.item-index;
  room : vec_capacity l.outputs ≡ vec_capacity l.fn.outputs;
}
