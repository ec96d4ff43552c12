-- The chunks are the list, and each chunk's answer is one more of each of its elements.
use Rattle.std.proofs.Common.{ℕ, ◌+◌, ◌∙◌, map, ap, subst, rules}
use Rattle.std.specs.declared.alloc.AllocError.{AllocError}
use Rattle.spindle_parts.specs.Gathered.{IsGathered}
use Rattle.spindle_parts.proofs.GatheredLists.{gathered_map}
use Rattle.spindle_tests.proofs.callers.one_more_each.Goals as goal

pub returns : goal.returns
returns g c =
    let more : ℕ → ℕ = λ x. x + 1 in
    let all = subst (λ r. IsGathered c.in_ok-sums.sums.items r) c.in_ok-branch.was c.in_ok-gathered.ensures.answers in
    gathered_map AllocError more c.in_ok-chunks.chunks.items c.in_ok-sums.sums.items c.in_ok-branch.field-0 c.in_ok-sums.ensures.answer all
    ∙ ap (map more) (c.in_ok-chunks.ensures.joined ∙ search rules)
