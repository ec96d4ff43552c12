-- The exchange of a steal keeps the table's rule.
use Rattle.std.proofs.Common.{rules, arith, ap, subst, sym}
use Rattle.spindle_rounds.specs.RoundConditions.{MayClaim}
use Rattle.spindle_rounds.proofs.RoundMoves.{kept}
use Rattle.spindle_rounds.proofs.KeptSteals.{steals}
use Rattle.spindle_rounds.proofs.RoundSearch.{may_still}
use Rattle.spindle_rounds.proofs.round.Round.try_steal.Goals as goal

pub compare_exchange-requires : goal.compare_exchange-requires
compare_exchange-requires g c = let r = c.longest-thread.ensures.read in let b = r.3.0 (omega arith) in let len = r.1 in let in_list = b.0.0 in
    let w = ap (λ m. m.0) r.2 in (
      search rules,
      omega arith,
      kept (steals g.D.SlotContents.discipline g.met.D.SlotContents.lawful _ _ _ _ _ _ _ (omega arith)
          (subst MayClaim (sym w) (may_still 0 r.0 c.args.seat.now.me.0 c.requires.free)) (omega arith) (omega arith) c.last_half-first.ensures),
    )

pub returns-then-compare_exchange-range-clause-step : goal.returns-then-compare_exchange-range-clause-step
returns-then-compare_exchange-range-clause-step g c = search rules
