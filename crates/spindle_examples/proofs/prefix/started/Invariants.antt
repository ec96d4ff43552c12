-- The runs so far, and the start of the next one.
use Rattle.std.proofs.Common.{◌≡◌, sum, take}
use Rattle.spindle.specs.Pieces.{joined}
use Rattle.spindle_examples.specs.Prefix.{continued}
use Rattle.spindle_examples.specs.Wrapping.{wrapped}
use Rattle.spindle_examples.proofs.prefix.started.Given as goal

abbrev pub invariant-loop-at : goal.invariant-loop-at
invariant-loop-at l = record {
  asked : l.asked.items ≡ continued 0 (take l.at l.runs);
  start : l.start ≡ wrapped (sum (joined (take l.at l.runs)));
}
