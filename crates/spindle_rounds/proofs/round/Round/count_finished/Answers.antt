-- The fetch_add of a finish keeps the table's rule.
use Rattle.std.proofs.Common.{rules, arith}
use Rattle.spindle_rounds.proofs.RoundMoves.{kept}
use Rattle.spindle_rounds.proofs.KeptFinish.{finishes}
use Rattle.spindle_rounds.proofs.round.Round.count_finished.Goals as goal

pub fetch_add-requires : goal.fetch_add-requires
fetch_add-requires g c =
    (search rules, omega arith, kept (finishes g.D.SlotContents.discipline g.met.D.SlotContents.lawful _ _ _ _ _ c.requires.own c.requires.slot))
