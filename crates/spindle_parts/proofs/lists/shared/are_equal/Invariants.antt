-- So far the slices are compared place by place.
use Rattle.std.proofs.Common.{◌≡◌, take}
use Rattle.std.specs.Cmp.Lexicographic.{pointwise}
use Rattle.spindle_parts.proofs.lists.shared.are_equal.Given as goal

abbrev pub invariant-loop-i : goal.invariant-loop-i
invariant-loop-i g l = l.equal ≡ pointwise g.T.PartialEq.eq (take l.i l.a) (take l.i l.b)
