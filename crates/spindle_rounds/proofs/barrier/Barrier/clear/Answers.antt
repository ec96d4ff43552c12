-- A clear keeps the table's rule.
use Rattle.std.proofs.Common.{rules, arith}
use Rattle.spindle_rounds.proofs.RoundMoves.{kept}
use Rattle.spindle_rounds.proofs.KeptEnding.{clears_round}
use Rattle.spindle_rounds.proofs.barrier.Barrier.clear.Goals as goal

pub store-requires : goal.store-requires
store-requires g c = let k = c.requires.closer in
    (search rules, omega arith, kept (clears_round g.D.SlotContents.discipline g.met.D.SlotContents.lawful _ _ _ _ _ _ _ _ k.4))
