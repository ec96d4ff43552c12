-- Who reads all ranges and the remainder as empty may arrive.
use Rattle.std.proofs.Common.{ℕ, ◌<◌, ◌∙◌, subst, refl}
use Rattle.spindle_rounds.specs.declared.round.claim.Claim.TheVariants as claim
use Rattle.spindle_rounds.specs.declared.round.claim.Steal.TheVariants as steal
use Rattle.spindle_rounds.specs.RoundSlots.{bare}
use Rattle.spindle_rounds.specs.RoundSteps.{number_or}
use Rattle.spindle_rounds.specs.RoundViews.{AtWork}
use Rattle.spindle_rounds.proofs.RoundClients.{remainder_claimed, remainder_nothing, stolen, all_empty}
use Rattle.spindle_rounds.proofs.RoundOnward.{onward_then}
use Rattle.spindle_locks_tests.proofs.round.scripts.find_nothing.Goals as goal

pub try_claim_rest-requires-clause-free : goal.try_claim_rest-requires-clause-free
try_claim_rest-requires-clause-free g c = (stolen bare c.args.seat.now.me c.try_steal.new.seat.me c.requires.free _ steal.Nothing c.in-Nothing.ensures.step).3

pub returns-clause-goes_on : goal.returns-clause-goes_on
returns-clause-goes_on g c = let u = c.try_steal.new.seat.me in let w = c.try_claim_rest.new.seat.me in
    let a = stolen bare c.args.seat.now.me u c.requires.free _ steal.Nothing c.in-Nothing.ensures.step in
    onward_then c.args.seat.now.me.0 u.0 w.0 a.0 (remainder_claimed bare u w a.3
    (number_or u.0.known.number) claim.Nothing c.in-Nothing-try_claim_rest.ensures.step).0

pub returns-clause-done : goal.returns-clause-done
returns-clause-done g c = let v = c.args.seat.now.me in let u = c.try_steal.new.seat.me in let w = c.try_claim_rest.new.seat.me in
    let n = number_or u.0.known.number in
    let a = stolen bare v u c.requires.free _ steal.Nothing c.in-Nothing.ensures.step in let step = c.in-Nothing-try_claim_rest.ensures.step in
    let r = remainder_claimed bare u w a.3 n claim.Nothing step in let free = r.3 in
    let at : AtWork free.1.0 w.0.known.may_stop w.0 = record { inside = (free.0.0, free.0.1); number = free.1.1; may_stop = refl } in (
      free.0,
      all_empty free.1.0 w.0.known.may_stop w.0 at (λ i lt. r.0.emptied i
          (a.4 i (subst (λ (t : ℕ). i < t) (r.0.threads ∙ (a.0.threads ∙ c.requires.threads)) lt))) (remainder_nothing bare u w a.3 n step),
    )
