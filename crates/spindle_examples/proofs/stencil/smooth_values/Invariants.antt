-- The values so far are those after the pass; the others are between what stood before them and what stands behind all.
use Rattle.std.proofs.Common.{◌≡◌, ◌++◌, take, drop}
use Rattle.spindle_examples.specs.Stencil.{smooth_between}
use Rattle.spindle_examples.proofs.stencil.smooth_values.Given as goal

abbrev pub invariant-loop-at : goal.invariant-loop-at
invariant-loop-at l =
    smooth_between l.fn.before l.fn.values l.fn.behind ≡ take l.at l.values ++ smooth_between l.before (drop l.at l.values) l.fn.behind
