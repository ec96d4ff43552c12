-- A bite leaves fewer squares; so far no bite wins.
use Rattle.std.proofs.Common.{◌≡◌, ◌-◌, ◌≤◌, false, not}
use Rattle.std.specs.List.{list_any}
use Rattle.spindle.specs.Pieces.{counted}
use Rattle.spindle_examples.specs.Chomp.{squares_of, after, wins}
use Rattle.spindle_examples.proofs.chomp.Board.+is_won.Given as goal

abbrev pub decreases-is_won : goal.decreases-is_won
decreases-is_won l = squares_of l.self

abbrev pub invariant-loop-square : goal.invariant-loop-square
invariant-loop-square l = record {
  low : l.square - 1 ≤ squares_of l.self - 1;
  none : list_any (λ at. not (wins (after l.self at))) (counted 1 (l.square - 1)) ≡ false;
}
