-- The values so far are those after the pass, and have settled or not; the others are between what stood before them and what stands
-- behind all.
use Rattle.std.proofs.Common.{◌≡◌, ◌++◌, ◌&&◌, take, drop}
use Rattle.std.specs.Cmp.Lexicographic.{pointwise}
use Rattle.spindle.specs.Passes.{passed}
use Rattle.spindle.proofs.kernels.passing.pass_over.Given as goal

abbrev pub invariant-loop-at : goal.invariant-loop-at
invariant-loop-at g l =
    let f = g.K.Stencil.becomes l.kernel in
    let s = g.K.Stencil.settles l.kernel in
    (passed f l.fn.before l.fn.values l.behind ≡ take l.at l.values ++ passed f l.before (drop l.at l.values) l.behind)
    × (pointwise s l.fn.values (passed f l.fn.before l.fn.values l.behind)
    ≡ l.settled && pointwise s (drop l.at l.values) (passed f l.before (drop l.at l.values) l.behind))
