-- What the bites so far leave.
use Rattle.std.proofs.Common.{◌≡◌, ◌-◌, ◌≤◌, map}
use Rattle.spindle.specs.Pieces.{counted}
use Rattle.spindle_examples.specs.Chomp.{squares_of, after}
use Rattle.spindle_examples.proofs.chomp.Board.replies.Given as goal

abbrev pub invariant-loop-square : goal.invariant-loop-square
invariant-loop-square l = record {
  low : l.square - 1 ≤ squares_of l.self - 1;
  boards : l.boards.items ≡ map (after l.self) (counted 1 (l.square - 1));
}
