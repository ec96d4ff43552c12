-- So many passes are made.
use Rattle.std.proofs.Common.{◌≡◌}
use Rattle.spindle_examples.specs.Stencil.{smooth_times}
use Rattle.spindle.specs.Strips.{items_of}
use Rattle.spindle_examples.proofs.stencil.passes.Given as goal

abbrev pub invariant-loop-pass : goal.invariant-loop-pass
invariant-loop-pass g l = items_of l.strips.items ≡ smooth_times l._pass (items_of l.fn.strips.items)
