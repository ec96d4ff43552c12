-- A number of which two seats' trails told would have begun twice.
use Rattle.std.proofs.Common.{ℕ, subst, arith}
use Rattle.spindle_tests.specs.Callers.{TellsOf}
use Rattle.spindle_tests.proofs.Trails.{told_twice}
use Rattle.spindle_tests.proofs.callers.jobs_differ.Goals as goal

pub returns : goal.returns
returns g c = λ threads s rule p q v w r j k apart at_p at_q by_v by_w same.
    let m = c.every_moment.ensures threads s rule in
    let once = (m.laws.once r k).0 in
    let all = m.begun r k in
    let twice = told_twice r k s.views p q v w apart at_p at_q (subst (λ (x : ℕ). TellsOf r x v) same by_v) by_w in
    omega arith
