-- The load and the exchange of a share that goes back keep the table's rule.
use Rattle.std.proofs.Common.{rules, arith, ap, subst, sym, refl}
use Rattle.spindle_rounds.specs.RoundConditions.{MayPutBack}
use Rattle.spindle_rounds.proofs.RoundMoves.{kept}
use Rattle.spindle_rounds.proofs.KeptLoads.{searches}
use Rattle.spindle_rounds.proofs.KeptStops.{puts}
use Rattle.spindle_rounds.proofs.round.Round.put_back.Goals as goal

pub load-range-requires : goal.load-range-requires
load-range-requires g c = (search rules, omega arith, kept (searches g.D.SlotContents.discipline g.met.D.SlotContents.lawful _ _ _ _ _ (omega arith)))

pub compare_exchange-found-requires : goal.compare_exchange-found-requires
compare_exchange-found-requires g c = let e = c.load-range.ensures.2.1 c.args.t refl in let own = c.requires.own in let v = c.bounds-from.ensures.value in
    let o = c.bounds-from.ensures.ordered in let from = ap (λ w. w.from) e in let to = ap (λ w. w.to) e in (
      search rules,
      omega arith,
      kept (puts g.D.SlotContents.discipline g.met.D.SlotContents.lawful _ _ _ _ _ _ _ (omega arith) (subst MayPutBack (sym e) c.requires.free)
          (omega arith) (omega arith) (omega arith) (omega arith)),
    )
