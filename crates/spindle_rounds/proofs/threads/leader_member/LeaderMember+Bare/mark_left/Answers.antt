-- The round that the leader has published last is the one that the words stand for.
use Rattle.std.proofs.Common.{◌≡◌, Some, length, sym, subst, ◌∙◌}
use Rattle.spindle_rounds.specs.Members.{party_view}
use Rattle.spindle_rounds.specs.RoundShown.{Showed, deeds_of}
use Rattle.spindle_rounds.specs.RoundConditions.{MayFill}
use Rattle.spindle_rounds.specs.RoundSteps.{round_of}
use Rattle.spindle_rounds.specs.SlotSteps.{IsDeed}
use Rattle.spindle_rounds.proofs.PieceClients.{shown_deed}
use Rattle.spindle_rounds.proofs.threads.leader_member.LeaderMember+Bare.mark_left.Goals as goal

pub mark_left-requires-clause-between : goal.mark_left-requires-clause-between
mark_left-requires-clause-between c = let member = c.args.self.now.member in let v = party_view member.barrier in
    subst (λ s. MayFill s.me.0) (sym c.seat.ensures.value) ((round_of v.standing, member.inside), member.role ∙ c.args.self.now.leads)

pub returns-clause-unbegun : goal.returns-clause-unbegun
returns-clause-unbegun c = λ q may_stop last. let n = length c.args.marks.now.items in let is = sym c.seat.ensures.value in
    c.mark_left.ensures.unbegun q may_stop (subst (λ s. s.me.0.laid ≡ Some q) is last.0)
    (subst (λ s. IsDeed (Showed q n may_stop) (deeds_of s.me.0.trail)) is
    (shown_deed q n may_stop (deeds_of (party_view c.args.self.now.member.barrier).trail) last.1))
