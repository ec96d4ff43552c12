-- A look keeps the table's rule.
use Rattle.std.proofs.Common.{rules, arith}
use Rattle.spindle_rounds.proofs.RoundMoves.{kept}
use Rattle.spindle_rounds.proofs.KeptBarrier.{looks}
use Rattle.spindle_rounds.proofs.barrier.Barrier.look.Goals as goal

pub load-word-requires : goal.load-word-requires
load-word-requires g c = (search rules, omega arith, kept (looks g.D.SlotContents.discipline g.met.D.SlotContents.lawful _ _ _ _ _ _ c.requires.waiting.2))
