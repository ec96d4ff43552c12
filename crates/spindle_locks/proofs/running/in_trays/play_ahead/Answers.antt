-- The leader's round, of as many jobs as there are pieces.
use Rattle.std.proofs.Common.{ℕ, Bool, subst}
use Rattle.spindle_rounds.specs.Working.{PlayedRound, PlayedRoundOf}
use Rattle.spindle_locks.proofs.running.in_trays.play_ahead.Goals as goal

pub returns-clause-played : goal.returns-clause-played
returns-clause-played g c = let old = c.args.leader.now.member.barrier.seat.me.0 in let new = c.lead-work.new.self.member.barrier.seat.me.0 in
    let published = c.published.ensures in subst (λ (n : ℕ). PlayedRound n old new) published.jobs
    (subst (λ (b : Bool). PlayedRoundOf c.published.result.jobs b old new) published.may_stop c.lead-work.ensures.played)
