-- The two steps of a leave keep the table's rule.
use Rattle.std.proofs.Common.{rules, sym, ◌∙◌, subst}
use Rattle.spindle_rounds.specs.RoundConditions.{MayLeave, HasSense}
use Rattle.spindle_rounds.proofs.BarrierClients.{still_waits}
use Rattle.spindle_rounds.proofs.RoundMoves.{kept}
use Rattle.spindle_rounds.proofs.KeptBarrier.{looks}
use Rattle.spindle_rounds.proofs.KeptLeaving.{leaves_to}
use Rattle.spindle_rounds.proofs.barrier.membership.leave_once.Goals as goal

pub load-word-requires : goal.load-word-requires
load-word-requires g c = (search rules, search rules, kept (looks g.D.SlotContents.discipline g.met.D.SlotContents.lawful _ _ _ _ _ _ c.requires.waiting.2))

pub compare_exchange-requires : goal.compare_exchange-requires
compare_exchange-requires g c = let m = c.requires.waiting in let n = c.load-word.result in let k = c.load-word.ensures.2 in
    let same = k.1 ∙ still_waits _ m.0 m.1 m.2 n c.args.sense c.requires.sense k.2 c.if-word-sense.false in (
      search rules,
      search rules,
      kept (leaves_to g.D.SlotContents.discipline g.met.D.SlotContents.lawful _ _ _ _ n _ c.args.sense (subst MayLeave (sym same) m)
          (subst (λ v. HasSense v.standing c.args.sense) (sym same) c.requires.sense) c.if-word-sense.false c.if-word-eq0.false c.saturating_sub-less.ensures),
    )
