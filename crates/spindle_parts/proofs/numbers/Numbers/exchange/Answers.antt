-- The exchange is a take.
use Rattle.std.proofs.Common.{rules, ap, arith, ◌∙◌, ◌%◌, refl}
use Rattle.spindle_parts.proofs.NumberBits.{or_adds}
use Rattle.spindle_parts.proofs.NumbersKept.{takes}
use Rattle.spindle_parts.specs.ThreadNumbers.{taking}
use Rattle.spindle_parts.proofs.numbers.Numbers.exchange.Goals as goal

pub compare_exchange-found-requires : goal.compare_exchange-found-requires
compare_exchange-found-requires c =
    let same = ap (λ t. t.threads) c.self.view_is in
    let i = c.self.invariant in let below = c.requires.number.0 in
    (search rules, omega arith, takes _ _ _ _ _ _ (omega arith) c.requires.no_number c.requires.number.1)

pub returns-then-found-word-clause-answer : goal.returns-then-found-word-clause-answer
returns-then-found-word-clause-answer c =
    let hit = c.if-found-word.true in let number = c.args.number in
    let sum = or_adds c.args.word (number % 32) (omega arith) c.requires.number.1 in
    (refl, c.compare_exchange-found.ensures.2.1 hit number (refl, sum) ∙ ap (λ x. taking number x c.args.seat.now.me.0) hit)
