-- The load and the exchange of a claim keep the table's rule.
use Rattle.std.proofs.Common.{rules, arith, subst, sym, refl}
use Rattle.spindle_rounds.specs.RoundConditions.{MayClaim}
use Rattle.spindle_rounds.proofs.RoundMoves.{kept}
use Rattle.spindle_rounds.proofs.KeptLoads.{searches}
use Rattle.spindle_rounds.proofs.KeptClaims.{claims}
use Rattle.spindle_rounds.proofs.round.Round.try_claim_own.Goals as goal

pub load-range-requires : goal.load-range-requires
load-range-requires g c = (search rules, omega arith, kept (searches g.D.SlotContents.discipline g.met.D.SlotContents.lawful _ _ _ _ _ (omega arith)))

pub compare_exchange-found-requires : goal.compare_exchange-found-requires
compare_exchange-found-requires g c = let D = g.D.SlotContents.discipline in
    let free = subst MayClaim (sym (c.load-range.ensures.2.1 c.args.t refl)) c.requires.free in
    (search rules, omega arith, kept (claims D g.met.D.SlotContents.lawful _ _ _ _ _ _ (omega arith) free (omega arith) (omega arith)))

pub returns-then-range-clause-step : goal.returns-then-range-clause-step
returns-then-range-clause-step g c = search rules
