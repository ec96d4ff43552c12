-- There are as many items as numbers, so the report is of as many pieces, and the outcome has its numbers.
use Rattle.std.proofs.Common.{◌≡◌, ℕ, length, vec_len, ap, subst, ◌∙◌, rules}
use Rattle.std.specs.Prelude.{IsTrue}
use Rattle.std.proofs.lemmas.List.{length-map}
use Rattle.spindle_parts.specs.Pieces.{counted}
use Rattle.spindle_parts.proofs.Deals.{length-counted}
use Rattle.spindle_locks.specs.Reports.{IsReport}
use Rattle.spindle_locks.specs.Rounds.{job_count}
use Rattle.spindle_commands.specs.Faults.{Tells}
use Rattle.spindle_commands.proofs.Outcomes.{outcome_of}
use Rattle.spindle_commands.proofs.faults.faults.Goals as goal

pub returns : goal.returns
returns g c =
    let plan = c.args.plan in
    let items = c.in_ok-items.items in
    let report = c.in_ok-report.report in
    let long : vec_len items ≡ length items.items = search rules in
    let many : vec_len items ≡ plan.count = long ∙ ap length c.in_ok-items.ensures
    ∙ length-map (counted 0 plan.count) (λ number. (number, c.args.bad)) ∙ length-counted 0 plan.count in
    let reported = subst (λ (m : ℕ). IsReport Tells (λ failed. IsTrue failed) items.items (job_count m plan.jobs) report) many c.in_ok-report.ensures in
    outcome_of c.args.bad plan.count (job_count plan.count plan.jobs) items.items report c.outcome_of.result c.in_ok-items.ensures reported
    c.outcome_of.ensures.ran c.outcome_of.ensures.skipped
