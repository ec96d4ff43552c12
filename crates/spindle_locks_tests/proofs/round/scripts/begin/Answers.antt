-- A number of the remainder has begun.
use Rattle.std.proofs.Common.{◌∙◌, subst, sym}
use Rattle.spindle_rounds.specs.declared.round.claim.Claim.TheVariants as claim
use Rattle.spindle_rounds.specs.RoundConditions.{MayClaim}
use Rattle.spindle_rounds.specs.RoundSlots.{bare}
use Rattle.spindle_rounds.specs.RoundSteps.{number_or}
use Rattle.spindle_rounds.proofs.RoundClients.{remainder_claimed}
use Rattle.spindle_locks_tests.proofs.round.scripts.begin.Goals as goal

pub returns-clause-own : goal.returns-clause-own
returns-clause-own g c = let may = subst (λ s. MayClaim s.me.0) (sym c.seat.ensures.value) c.requires.free in
    (remainder_claimed bare c.seat.result.now.me c.try_claim_rest.new.seat.me may (number_or c.seat.result.now.me.0.known.number)
    (claim.Job _) c.in-Job.ensures.step).3

pub returns-clause-knows : goal.returns-clause-knows
returns-clause-knows g c = let may = subst (λ s. MayClaim s.me.0) (sym c.seat.ensures.value) c.requires.free in
    let a = remainder_claimed bare c.seat.result.now.me c.try_claim_rest.new.seat.me may (number_or c.seat.result.now.me.0.known.number)
    (claim.Job _) c.in-Job.ensures.step in
    ((may.1.0, a.0.number ∙ may.1.1), a.1.0 ∙ may.2)
