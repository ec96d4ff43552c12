-- The step gives the number back.
use Rattle.std.proofs.Common.{rules, ap, arith, ◌∙◌, sym}
use Rattle.spindle_parts.proofs.NumbersKept.{gives}
use Rattle.spindle_parts.proofs.numbers.Numbers.give.Goals as goal

pub fetch_and-requires : goal.fetch_and-requires
fetch_and-requires c =
    let same = ap (λ t. t.threads) c.self.view_is in
    let i = c.self.invariant in let below = c.requires.seated.below c.args.number c.requires.own in
    (search rules, omega arith, gives _ _ _ _ _ (omega arith) c.requires.own)

pub returns-clause-number : goal.returns-clause-number
returns-clause-number c = ap (λ v. v.holding) (c.fetch_and.ensures.2.1 c.args.number c.requires.own)

pub returns-clause-seat : goal.returns-clause-seat
returns-clause-seat c =
    let e = c.fetch_and.ensures in let none = returns-clause-number c in
    (record { table = e.0 ∙ c.requires.seated.table; below = λ k has. absurd (let z = sym none ∙ has in cc) }, record { table = e.0; id = e.1; slots = e.2.0 })
