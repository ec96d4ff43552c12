-- The leader of a published round may claim.
use Rattle.std.proofs.Common.{arith, ◌∙◌, ap, subst, sym, false}
use Rattle.spindle_rounds.specs.RoundConditions.{MayFill}
use Rattle.spindle_rounds.specs.RoundSlots.{bare}
use Rattle.spindle_rounds.proofs.RoundClients.{filled_round, round_published}
use Rattle.spindle_rounds.proofs.RoundOnward.{may_claim}
use Rattle.spindle_locks_tests.proofs.round.scripts.publish_two.Goals as goal

pub returns-clause-free : goal.returns-clause-free
returns-clause-free c = let first = c.seat.ensures.value in let second = c.seat-2.ensures.value in
    let l = subst (λ s. MayFill s.me.0) (sym first) c.requires.leads in
    let f = filled_round bare _ 2 l.0.0 c.seat.result.now.me.0 c.fill.new.seat.me.0 l.0.1 l.1 tt c.fill.ensures.filled in
    let p = round_published c.seat-2.result.now.me c.publish.new.seat.me l.0.0 2 false (ap (λ s. s.me.0.standing) second ∙ f.4) c.publish.ensures.step in
    let free = c.requires.free.3 in
    let a = f.3.0 in let b = f.3.1 in let d = p.3.0 in let e = p.3.1 in let g = ap (λ s. s.me.0.from) first in let h = ap (λ s. s.me.0.to) first in
    let i = ap (λ s. s.me.0.from) second in let j = ap (λ s. s.me.0.to) second in
    may_claim 2 false c.publish.new.seat.me.0 p.0 (p.2 ∙ (ap (λ s. s.me.0.claim) second ∙ (f.2 ∙ (ap (λ s. s.me.0.claim) first ∙ c.requires.free.2))))
    (omega arith) p.1
