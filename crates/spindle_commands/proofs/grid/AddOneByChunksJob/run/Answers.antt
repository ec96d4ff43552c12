-- The chunks are the run, and each chunk's answer is one more of each of its numbers.
use Rattle.std.proofs.Common.{◌∙◌, map, ap, subst}
use Rattle.std.specs.declared.alloc.AllocError.{AllocError}
use Rattle.spindle_parts.specs.Gathered.{IsGathered}
use Rattle.spindle_parts.proofs.GatheredLists.{gathered_map}
use Rattle.spindle_commands.specs.Grid.{one_more}
use Rattle.spindle_commands.proofs.grid.AddOneByChunksJob.run.Goals as goal

pub returns : goal.returns
returns g c =
    let all = subst (λ r. IsGathered c.in_ok-sums.sums.items r) c.in_ok-branch.was c.in_ok-gathered.ensures.answers in
    gathered_map AllocError one_more c.in_ok-chunks.chunks.items c.in_ok-sums.sums.items c.in_ok-branch.field-0 c.in_ok-sums.ensures.answer all
    ∙ ap (map one_more) c.in_ok-chunks.ensures
