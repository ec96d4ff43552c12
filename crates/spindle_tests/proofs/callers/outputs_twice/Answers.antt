-- Both lists of outputs answer the same items.
use Rattle.std.proofs.Common.{subst, List}
use Rattle.std.specs.List.{AllZip}
use Rattle.spindle_tests.proofs.Answering.{AllZip-function}
use Rattle.spindle_tests.proofs.callers.outputs_twice.Goals as goal

pub returns : goal.returns
returns g c =
    let by_many = subst (λ (items : List g.row.J-In.Denot). AllZip g.J.Job.meets items c.in_ok-by_many.by_many.items) c.requires.equal c.in_ok-by_many.ensures.answer
    in
    AllZip-function g.J.Job.meets c.requires.function c.args.items.items c.in_ok-by_one.by_one.items c.in_ok-by_many.by_many.items c.in_ok-by_one.ensures.answer
    by_many
