-- An arrival keeps the table's rule.
use Rattle.std.proofs.Common.{rules, arith}
use Rattle.spindle_rounds.proofs.RoundMoves.{kept}
use Rattle.spindle_rounds.proofs.KeptBarrier.{arrives}
use Rattle.spindle_rounds.proofs.barrier.Barrier.arrive.Goals as goal

pub fetch_sub-found-requires : goal.fetch_sub-found-requires
fetch_sub-found-requires g c = let f = c.requires.free in (
  search rules,
  omega arith,
  kept (arrives g.D.SlotContents.discipline g.met.D.SlotContents.lawful _ _ _ _ _ f.1 f.2 f.3 c.requires.done),
)
