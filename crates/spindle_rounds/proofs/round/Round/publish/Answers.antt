-- The published number keeps the table's rule.
use Rattle.std.proofs.Common.{rules, arith, subst, ℕ}
use Rattle.spindle_rounds.specs.RoundRule.{IsFilled}
use Rattle.spindle_rounds.proofs.RoundMoves.{kept}
use Rattle.spindle_rounds.proofs.KeptFill.{publishes}
use Rattle.spindle_rounds.proofs.round.Round.publish.Goals as goal

pub store-requires : goal.store-requires
store-requires g c = let l = c.requires.leads in (
  search rules,
  omega arith,
  kept (publishes g.D.SlotContents.discipline g.met.D.SlotContents.lawful _ _ _ _ _ _ (omega (arith, c.args.self.now.ranges)) l.1 l.2
      (subst (λ (n : ℕ). IsFilled n c.args.jobs c.args.seat.now.me.0.known.stored) (search rules) l.3) c.requires.counted.0 c.requires.counted.1 l.4),
)
