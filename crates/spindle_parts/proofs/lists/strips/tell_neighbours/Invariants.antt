-- The strips so far have been told; the others are to be.
use Rattle.std.proofs.Common.{◌≡◌, ◌++◌, take, drop}
use Rattle.spindle_parts.specs.Strips.{told}
use Rattle.spindle_parts.proofs.lists.strips.tell_neighbours.Given as goal

abbrev pub invariant-loop-at : goal.invariant-loop-at
invariant-loop-at g l = told l.edge l.fn.strips l.edge ≡ take l.at l.strips ++ told l.before (drop l.at l.strips) l.edge
