-- The first round answers the runs' totals, and so the second the sums of the whole table.
use Rattle.std.proofs.Common.{rules, ◌≡◌, ℕ, List, None, IfOk, Vec, Global, map, sum, ap, sym, subst, ◌∙◌}
use Rattle.spindle_examples.specs.Prefix.{asked_of, running, prefix_sums, answers_to, continued}
use Rattle.spindle_examples.specs.Wrapping.{wrapped}
use Rattle.spindle_examples.proofs.Prefixes.{joined_sums, joined_totals}
use Rattle.spindle_examples.proofs.prefix.two_rounds.Goals as goal

pub started-requires : goal.started-requires
started-requires g c =
    let total : List ℕ → ℕ = λ run. wrapped (sum run) in
    c.as_slice-3.ensures.value
    ∙ c.in_ok-totals.ensures
    ∙ ap answers_to c.in_ok-unstarted.ensures
    ∙ ap (λ (runs : List (List ℕ)). answers_to (map (asked_of None) runs)) c.as_slice.ensures.value
    ∙ joined_totals c.in_ok-runs.runs.items
    ∙ ap (map total) (sym c.as_slice-2.ensures.value)

pub returns : goal.returns
returns g c =
    let whole : answers_to c.in_ok-runs-2.runs.items ≡ prefix_sums c.args.values.items =
    ap answers_to c.in_ok-runs-2.ensures
    ∙ ap (λ runs. answers_to (continued 0 runs)) c.as_slice-2.ensures.value
    ∙ joined_sums 0 c.in_ok-runs.runs.items
    ∙ ap (running 0) (c.in_ok-runs.ensures.joined ∙ search rules) in
    subst (λ wanted. IfOk c.ask-2.result (λ (sums : Vec ℕ Global). sums.items ≡ wanted)) whole c.ask-2.ensures
