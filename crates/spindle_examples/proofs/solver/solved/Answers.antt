-- The passes ended since no value changed.
use Rattle.std.proofs.Common.{◌≡◌, ◌==◌, ℕ, ◌+◌, ◌*◌, ◌/◌, true, List, subst, rules}
use Rattle.spindle.specs.Passes.{HavePassed}
use Rattle.spindle.proofs.PassLists.{fixed_once_settled}
use Rattle.spindle_examples.proofs.solver.solved.Goals as goal

pub returns : goal.returns
returns g c =
    let mean : ℕ → ℕ → ℕ → ℕ = λ before here behind. (before + 2 * here + behind) / 4 in
    let new : List ℕ = c.in_ok-passes.passes.values.items in
    let settled : c.in_ok-passes.passes.settled ≡ true = search rules in
    let passed : HavePassed mean ◌==◌ c.args.edge c.args.most c.args.values.items c.in_ok-passes.passes.count true new =
    subst (λ b. HavePassed mean ◌==◌ c.args.edge c.args.most c.args.values.items c.in_ok-passes.passes.count b new) settled c.in_ok-passes.ensures.answer in
    let same : (x y : ℕ) → x == y ≡ true → x ≡ y = search rules in
    fixed_once_settled mean ◌==◌ c.args.edge c.args.most c.in_ok-passes.passes.count c.args.values.items new same passed
