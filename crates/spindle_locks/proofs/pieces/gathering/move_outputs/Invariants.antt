-- So far the outputs of the first places stand in the list, and these places are empty.
use Rattle.std.proofs.Common.{◌≡◌, ◌++◌, ◌≤◌, replicate, take, drop, None, vec_capacity, length}
use Rattle.std.specs.List.{AllZip}
use Rattle.spindle_locks.specs.Outputs.{all_inputs_in}
use Rattle.spindle_locks.proofs.pieces.gathering.move_outputs.Given as goal

abbrev pub invariant-loop-k : goal.invariant-loop-k
invariant-loop-k g l = record {
  answers : AllZip g.J.Job.meets (all_inputs_in (take l.k l.initial.places.items)) l.outputs.items;
  emptied : l.places.items ≡ replicate l.k None ++ drop l.k l.initial.places.items;
  space : length (all_inputs_in l.initial.places.items) ≤ vec_capacity l.outputs;
}
