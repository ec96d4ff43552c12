-- Equal inputs are the same inputs, and inputs equal themselves.
use Rattle.std.proofs.Common.{◌≡◌, ◌∙◌, rules}
use Rattle.std.specs.Cmp.Lexicographic.{pointwise}
use Rattle.spindle_locks.proofs.Places.{same_by_test}
use Rattle.spindle_locks.proofs.pieces.finished.Finished.is_of.Goals as goal

pub returns-then-number : goal.returns-then-number
returns-then-number g c =
    let E = g.J.In.PartialEq.eq in
    let inputs = c.args.self.now.inputs in
    let items = c.args.items.now in
    let e : c.are_equal.result ≡ pointwise E inputs items = c.are_equal.ensures ∙ (λ i. pointwise E (c.inputs.ensures i) items) in
    let same = same_by_test E g.met.J.Job.equal_is_same g.met.J.In.Eq.laws inputs items c.are_equal.result e in
    let number : c.args.self.now.number ≡ c.args.number = search rules in
    (λ t. (number, same.0 t), λ both. same.1 both.1)
