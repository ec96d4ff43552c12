-- The chunks of copies of a number, after a round, are copies of the next number.
use Rattle.std.proofs.Common.{ℕ, List, ◌∙◌, map, ap, subst, arith}
use Rattle.spindle_parts.specs.declared.fault.Fault.{Fault}
use Rattle.spindle_parts.specs.Gathered.{IsGathered}
use Rattle.spindle_parts.proofs.GatheredLists.{gathered_values}
use Rattle.spindle_commands.specs.Grid.{one_more}
use Rattle.spindle_commands.proofs.Grids.{joined_firsts, more_copies}
use Rattle.spindle_commands.proofs.grid.rounds.Goals as goal

pub loop-round-preserved : goal.loop-round-preserved
loop-round-preserved g c = λ n zeros.
    let add : (List ℕ × ℕ) → List ℕ = λ item. map one_more item.0 in
    let items = c.in_ok-items.items.items in
    let all = subst (λ r. IsGathered c.in_ok-sums.sums.items r) c.in_ok-numbers.was c.in_ok-gathered.ensures.answers in
    gathered_values {E = Fault} add items c.in_ok-sums.sums.items c.in_ok-numbers.numbers c.in_ok-sums.ensures.answer all
    ∙ joined_firsts one_more items
    ∙ ap (map one_more) (c.in_ok-items.ensures ∙ c.loop-round.invariant n zeros)
    ∙ more_copies n c.loop-round._round (omega arith)
