-- Of the bites so far those after which the other one has lost.
use Rattle.std.proofs.Common.{◌≡◌, ◌+◌, not, length}
use Rattle.std.specs.List.{filter}
use Rattle.spindle.specs.Pieces.{counted}
use Rattle.spindle_examples.specs.Chomp.{after, wins}
use Rattle.spindle_examples.proofs.evaluator.lost_after.Given as goal

abbrev pub invariant-loop-answer : goal.invariant-loop-answer
invariant-loop-answer g l = record {
  bites : l.bites.items ≡ filter (λ at. not (wins (after l.fn.board at))) (counted 1 (length l.yielded));
  square : l.square ≡ length l.yielded + 1;
}
