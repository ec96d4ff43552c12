-- Where no piece has failed the outputs are the amounts; else the first that has is the first with an order that comes to too much.
use Rattle.std.proofs.Common.{◌≡◌, ◌∙◌, ◌<◌, length, map, unwrap_or, ap, vec_len, arith, rules}
use Rattle.spindle.specs.Rounds.{job_count}
use Rattle.spindle_examples.proofs.Reports.{all_amounts, first_too_large}
use Rattle.spindle_examples.proofs.checked.check_orders.Goals as goal

pub returns-in-Some : goal.returns-in-Some
returns-in-Some g c =
    let n = job_count (vec_len c.args.orders) c.args.jobs in let told = c.in_ok-report.ensures in
    let found = first_too_large c.args.orders.items n c.in_ok-report.report told c.in-Some.piece c.in-Some.ensures.first in
    (found.0, told.answers, found.1)

pub returns : goal.returns
returns g c =
    let orders = c.args.orders.items in let n = job_count (vec_len c.args.orders) c.args.jobs in
    let some : 0 < length orders → 0 < n = λ h. omega (arith, c.requires, h) in
    let mapped : c.in_ok-collect.field-0.items ≡ map (λ bill. unwrap_or bill 0) c.in_ok-bills.bills.items = search rules in
    mapped ∙ ap (map (λ bill. unwrap_or bill 0)) c.in_ok-bills.ensures.outputs
    ∙ all_amounts orders n c.in_ok-report.report c.in_ok-report.ensures some (c.in_default.ensures.none.0 (search rules))
