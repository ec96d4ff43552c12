-- A publish, the leader's own work, and the round's end.
use Rattle.std.proofs.Common.{ℕ, ◌+◌, Bool, false, List, ap, sym, ◌∙◌, subst}
use Rattle.spindle_rounds.specs.Passing.{InNext}
use Rattle.spindle_rounds.specs.RoundShown.{Showed}
use Rattle.spindle_rounds.specs.RoundSteps.{round_of, unknown}
use Rattle.spindle_rounds.specs.RoundViews.{Onward, shown_of, stopped_of}
use Rattle.spindle_rounds.specs.SlotSteps.{IsDeed}
use Rattle.spindle_rounds.specs.declared.round_table.view.Standing.TheVariants.{Inside}
use Rattle.spindle_rounds.specs.declared.round_table.view.View.{View}
use Rattle.spindle_rounds.proofs.BarrierClients.{moved_deeds}
use Rattle.spindle_rounds.proofs.Workers.{played_after}
use Rattle.spindle_rounds.specs.Members.{LastPublished}
use Rattle.spindle_rounds.proofs.threads.leader_member.LeaderMember+Bare.lead.Goals as goal

-- what a leader published stays what it published last, through its work in the round and the round's end
last_after : {S N : Type 0} (q n : ℕ) (may_stop : Bool) (v : View N) (u w : View N × List (ℕ × S)) → LastPublished q n may_stop v → Onward v u.0 → InNext u w
    → LastPublished q n may_stop w.0
last_after q n may_stop v u w last on next =
    let same = ap shown_of (moved_deeds (Inside (round_of u.0.standing + 1)) (unknown u.0.leader false) u w next) ∙ on.published in
    (ap (λ z. z.0.laid) next.seat ∙ on.laid ∙ last.0, subst (IsDeed (Showed q n may_stop)) (sym same) last.1)

pub returns-clause-played : goal.returns-clause-played
returns-clause-played g c = let w = c.work-work.ensures in let round = c.args.published in
    played_after round.jobs round.may_stop c.args.self.now.member.barrier.seat.me.0 c.publish.new.barrier.seat.me.0 c.work-work.new.seat.me
    c.end_round.new.barrier.seat.me c.publish.ensures.published (rw c.seat.ensures.value at w.went.on) w.idle c.end_round.ensures.next

pub returns-clause-keeps : goal.returns-clause-keeps
returns-clause-keeps g c = let u = c.work-work.new.seat.me in (
  c.publish.new.barrier.seat.me.0,
  u.0,
  c.publish.ensures.stops,
  c.publish.ensures.published.0,
  rw c.seat.ensures.value at c.work-work.ensures.keeps,
  ap stopped_of (moved_deeds (Inside (round_of u.0.standing + 1)) (unknown u.0.leader false) u c.end_round.new.barrier.seat.me c.end_round.ensures.next),
)

pub returns-clause-last : goal.returns-clause-last
returns-clause-last g c = let round = c.args.published in
    last_after _ round.jobs round.may_stop c.publish.new.barrier.seat.me.0 c.work-work.new.seat.me c.end_round.new.barrier.seat.me
    c.publish.ensures.last (rw c.seat.ensures.value at c.work-work.ensures.went.on) c.end_round.ensures.next
