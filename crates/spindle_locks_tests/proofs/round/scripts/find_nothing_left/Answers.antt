-- Reading leaves a member where it stands.
use Rattle.std.proofs.Common.{◌∙◌, ap, subst, sym}
use Rattle.spindle_rounds.specs.RoundConditions.{HasSense, HasPart}
use Rattle.spindle_locks_tests.proofs.round.scripts.find_nothing_left.Goals as goal

pub returns-clause-held : goal.returns-clause-held
returns-clause-held g c = let e = c.find_nothing.ensures in let st = e.goes_on.standing ∙ ap (λ s. s.me.0.standing) c.seat.ensures.value in
    let held = c.requires.held in let b = c.args.member.now in (
      e.seat.0 ∙ (ap (λ s. s.table_id) c.seat.ensures.value ∙ held.0),
      subst (λ z. HasSense z b.sense) (sym st) held.1,
      subst (λ z. HasPart z b.is_member)
          (sym st) held.2,
    )
