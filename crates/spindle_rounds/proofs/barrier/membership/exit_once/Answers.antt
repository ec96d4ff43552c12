-- The two steps of an exit keep the table's rule.
use Rattle.std.proofs.Common.{rules, ◌≡◌, ◌*◌, ◌-◌, sym, ap, ◌∙◌, subst, eq-eqb, ne_eqb, if◌then◌else◌}
use Rattle.spindle_rounds.specs.Words.{one_party, sense_bit, most_of, sense_of}
use Rattle.spindle_rounds.specs.RoundSteps.{exit_word}
use Rattle.spindle_rounds.specs.RoundConditions.{MayExit}
use Rattle.spindle_rounds.proofs.RoundMoves.{kept}
use Rattle.spindle_rounds.proofs.KeptLoads.{loads}
use Rattle.spindle_rounds.proofs.KeptEnding.{exits_to}
use Rattle.spindle_rounds.proofs.barrier.membership.exit_once.Goals as goal
use Rattle.spindle_rounds.proofs.barrier.membership.exit_once.Goals.{then-most-eq1, else-most-eq1}

pub load-word-requires : goal.load-word-requires
load-word-requires g c = (search rules, search rules, kept (loads g.D.SlotContents.discipline g.met.D.SlotContents.lawful _ _ _ _))

pub compare_exchange-requires : goal.compare_exchange-requires
compare_exchange-requires g c = let n = c.load-word.result in let is : c.if-most-eq1.less ≡ exit_word n = elim c.if-most-eq1.branch [
  | then-most-eq1 w ↦ w.less-is ∙ sym (ap (λ b. if b then sense_bit * (1 - sense_of n) else n - one_party) (eq-eqb (most_of n) 1 w.if-most-eq1.true))
  | else-most-eq1 w ↦ w.less-is ∙ (w.saturating_sub-less.ensures ∙ sym
      (ap (λ b. if b then sense_bit * (1 - sense_of n) else n - one_party) (ne_eqb (most_of n) 1 w.if-most-eq1.false)))
] in (
  search rules,
  search rules,
  kept (exits_to g.D.SlotContents.discipline g.met.D.SlotContents.lawful _ _ _ _ _ _ (subst MayExit (sym c.load-word.ensures.2.1) c.requires.free) is),
)
