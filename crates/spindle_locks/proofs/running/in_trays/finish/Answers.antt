-- The round may have been stopped before the piece's number was counted.
use Rattle.std.proofs.Common.{◌∙◌, sym, subst}
use Rattle.spindle_rounds.specs.PartyWork.{HasFinished}
use Rattle.spindle_rounds.proofs.RoundClients.{stop_done}
use Rattle.spindle_rounds.proofs.PartyWork.{finish_after}
use Rattle.spindle_locks.proofs.running.in_trays.finish.Goals as goal
use Rattle.spindle_locks.proofs.running.in_trays.finish.Goals.{then-failed, else-failed}

pub returns-clause-finished : goal.returns-clause-finished
returns-clause-finished g c = let old = c.args.seat.now in let end = c.finish.new.seat.me.0 in
    elim c.if-failed.branch [
      | then-failed w ↦ let stopped = w.stop.new.seat in let a = stop_done old.me stopped.me w.stop.ensures.step in
          finish_after c.finish.result old.me.0 stopped.me.0 end a.0
          (λ plain. let e = sym (c.requires.failed w.if-failed.true) ∙ (sym c.requires.at.on.0.may_stop ∙ plain) in absurd cc) a.2
          (subst (λ s. HasFinished c.finish.result s.me.0 end) w.seat-is c.finish.ensures.finished)
      | else-failed w ↦ subst (λ s. HasFinished c.finish.result s.me.0 end) w.seat-is c.finish.ensures.finished
    ]
