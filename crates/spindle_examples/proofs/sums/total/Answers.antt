-- One more value.
use Rattle.std.proofs.Common.{ℕ, List, ◌+◌, get_or, sum, take, ap, sym, ◌∙◌}
use Rattle.std.proofs.lemmas.List.Sums.{sum_by_more}
use Rattle.spindle_examples.specs.Wrapping.{wrapped}
use Rattle.spindle_examples.proofs.Wrapped.{wrapped_part}
use Rattle.spindle_examples.proofs.sums.total.Goals as goal

pub loop-value-preserved : goal.loop-value-preserved
loop-value-preserved c =
    let xs : List ℕ = c.args.values.now in
    let i : ℕ = c.loop-value.value-index in
    let x : ℕ = get_or xs i 0 in
    ap (λ n. wrapped (n + x)) c.loop-value.invariant
    ∙ wrapped_part (sum (take i xs)) x
    ∙ ap wrapped (sym (sum_by_more (λ k. k) xs i 0 c.loop-value-test.true))
