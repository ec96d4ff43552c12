-- The store of what is left of a share keeps the table's rule.
use Rattle.std.proofs.Common.{rules, arith}
use Rattle.spindle_rounds.proofs.RoundMoves.{kept}
use Rattle.spindle_rounds.proofs.KeptShares.{shares}
use Rattle.spindle_rounds.proofs.round.Round.next_of_share.Goals as goal

pub store-requires : goal.store-requires
store-requires g c = let own = c.requires.own in let v = c.bounds-first.ensures.value in let o = c.bounds-first.ensures.ordered in
    (search rules, omega arith, kept (shares g.D.SlotContents.discipline g.met.D.SlotContents.lawful _ _ _ _ _ _ (omega arith) c.requires.free (omega arith)))
