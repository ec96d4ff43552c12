-- The two steps of a join keep the table's rule.
use Rattle.std.proofs.Common.{rules, arith, ap, ◌∙◌, ◌⊎◌, inl, inr, ◌≡◌, ◌<◌, ◌/◌, ◌%◌}
use Rattle.spindle_rounds.proofs.RoundMoves.{kept}
use Rattle.spindle_rounds.proofs.KeptLoads.{loads}
use Rattle.spindle_rounds.proofs.KeptBarrier.{joins}
use Rattle.spindle_rounds.proofs.barrier.membership.join.Goals as goal
use Rattle.spindle_rounds.proofs.barrier.membership.join.Goals.{else-word-eq0-via-then-word-eq0+else-most-gt0, else-word-eq0-via-else-word-eq0}
use Rattle.spindle_rounds.specs.Words.{field_size, one_member}

pub load-word-requires : goal.load-word-requires
load-word-requires g c = (search rules, search rules, kept (loads g.D.SlotContents.discipline g.met.D.SlotContents.lawful _ _ _ _))

pub compare_exchange-requires : goal.compare_exchange-requires
compare_exchange-requires g c = let n = c.load-word.result in let fine : (0 < n % field_size) ⊎ (n / one_member % field_size ≡ 0) =
    elim c.else-word-eq0.branch [
      | else-word-eq0-via-then-word-eq0+else-most-gt0 w ↦ inr (omega arith)
      | else-word-eq0-via-else-word-eq0 w ↦ inl (omega arith)
    ] in (
      search rules,
      search rules,
      kept (joins g.D.SlotContents.discipline g.met.D.SlotContents.lawful _ _ _ _ _
          (ap (λ m. m.standing) c.load-word.ensures.2.1 ∙ c.requires.away) fine (omega arith)),
    )
