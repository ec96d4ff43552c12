-- The closer's load and its store keep the table's rule.
use Rattle.std.proofs.Common.{rules, ap, ◌∙◌}
use Rattle.spindle_rounds.specs.RoundSteps.{with_word}
use Rattle.spindle_rounds.proofs.RoundMoves.{kept}
use Rattle.spindle_rounds.proofs.KeptBarrier.{closer_reads}
use Rattle.spindle_rounds.proofs.KeptEnding.{ends_round}
use Rattle.spindle_rounds.proofs.barrier.steps.end_round.Goals as goal

pub load-word-requires : goal.load-word-requires
load-word-requires g c =
    (search rules, search rules, kept (closer_reads g.D.SlotContents.discipline g.met.D.SlotContents.lawful _ _ _ _ _ _ _ _ c.requires.cleared.3))

pub store-requires : goal.store-requires
store-requires g c = let n = c.load-word.result in let standing = ap (λ m. m.standing) c.load-word.ensures.2.1 ∙ ap (with_word n) c.requires.cleared.3 in
    (search rules, search rules, kept (ends_round g.D.SlotContents.discipline g.met.D.SlotContents.lawful _ _ _ _ _ n _ standing))
