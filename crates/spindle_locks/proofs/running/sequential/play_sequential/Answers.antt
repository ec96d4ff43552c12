-- The leader's round, of as many jobs as there are pieces.
use Rattle.std.proofs.Common.{◌≡◌, ◌∷◌, ℕ, Bool, true, ⊎_elim, inl, inr, ap, ◌∙◌, arith, subst}
use Rattle.spindle_rounds.specs.RoundShown.{Stopped}
use Rattle.spindle_rounds.specs.RoundSteps.{round_of}
use Rattle.spindle_rounds.specs.RoundViews.{StopsAsBefore}
use Rattle.spindle_rounds.specs.Working.{PlayedRoundOf}
use Rattle.spindle_rounds.specs.Members.{LastPublished}
use Rattle.spindle_locks.specs.Stops.{HasStoppedAt}
use Rattle.spindle_locks.proofs.running.sequential.play_sequential.Goals as goal

pub returns-clause-played : goal.returns-clause-played
returns-clause-played g c = let old = c.args.leader.now.member.barrier.seat.me.0 in let new = c.lead-work.new.self.member.barrier.seat.me.0 in
    let published = c.published.ensures in subst (λ (n : ℕ). PlayedRoundOf n true old new) published.jobs
    (subst (λ (b : Bool). PlayedRoundOf c.published.result.jobs b old new) published.may_stop c.lead-work.ensures.played)

pub returns-clause-last : goal.returns-clause-last
returns-clause-last g c = let q = round_of c.args.leader.now.member.barrier.seat.me.0.standing in let new = c.lead-work.new.self.member.barrier.seat.me.0 in
    let published = c.published.ensures in subst (λ (n : ℕ). LastPublished q n true new) published.jobs
    (subst (λ (b : Bool). LastPublished q c.published.result.jobs b new) published.may_stop c.lead-work.ensures.last)

pub returns-clause-fit : goal.returns-clause-fit
returns-clause-fit g c = let w = c.lead-work.ensures in rw w.keeps.4.0 at w.holds.1.0

pub returns-clause-stops : goal.returns-clause-stops
returns-clause-stops g c = let w = c.lead-work.ensures.keeps in let n = c.args.pieces.now.count in let f = c.lead-work.result.failed in
    let old = c.args.leader.now.member.barrier.seat.me.0 in let same = w.2 in
    ⊎_elim (λ (none : (f ≡ c.count.result) × StopsAsBefore w.0 w.1). inl (omega (arith, none.0, c.count.ensures.number), w.5 ∙ none.1 ∙ same))
    (λ (at : HasStoppedAt n f w.0 w.1). inr (at.0, at.1, w.5 ∙ at.2 ∙ ap (λ s. Stopped (round_of s) f ∷ at.1) w.3)) w.4.1.1
