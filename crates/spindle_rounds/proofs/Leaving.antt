-- What a member is told that waits for its round's end, or leaves.
use Rattle.std.proofs.Common.{◌≡◌, ◌+◌, ap, sym, subst, refl, ◌∙◌, false}
use Rattle.atomic_table.specs.declared.shared.Seat.{Seat}
use Rattle.spindle_rounds.specs.declared.threads.tables.Tables.{Tables}
use Rattle.spindle_rounds.specs.Members.{IsAt, IsOut}
use Rattle.spindle_rounds.specs.declared.threads.member.Member.{Member}
use Rattle.spindle_rounds.specs.Working.{IsIdle}
use Rattle.atomic_table.specs.Table.{Me}
use Rattle.spindle_rounds.specs.Accounts.{IsSameThread}
use Rattle.spindle_rounds.specs.Helpers.{EndedOrLeft}
use Rattle.spindle_rounds.specs.declared.threads.signals.Signals.{Signals}
use Rattle.spindle_rounds.specs.declared.barrier.Barrier.{Barrier}
use Rattle.spindle_rounds.specs.declared.barrier.steps.Arrival.TheVariants as arrival
use Rattle.spindle_rounds.specs.declared.barrier.waiting.ExitStatus.{ExitStatus}
use Rattle.spindle_rounds.specs.declared.barrier.waiting.ExitStatus.TheVariants as status
use Rattle.spindle_rounds.specs.declared.round_table.view.Standing.{Standing}
use Rattle.spindle_rounds.specs.declared.round_table.view.Standing.TheVariants.{Away, Inside}
use Rattle.spindle_rounds.specs.declared.round_table.view.Known.{Known}
use Rattle.spindle_rounds.specs.declared.round_table.view.View.{View}
use Rattle.spindle_rounds.specs.Seating.{IsSameSeat}
use Rattle.spindle_rounds.specs.Holding.{IsHeld, Keeps, AwaitTold}
use Rattle.spindle_rounds.specs.Passing.{InNext, WentOut}
use Rattle.spindle_rounds.specs.RoundAnswers.{ArrivedBy}
use Rattle.spindle_rounds.specs.RoundConditions.{HasPart, HasSense, MayLeave}
use Rattle.spindle_rounds.specs.RoundSteps.{round_of, unknown}
use Rattle.spindle_rounds.proofs.BarrierClients.{arrived_waits, keeps_on, leave_left, may_wait, moved_idle, moved_known, moved_leader, moved_on, moved_standing}
use Rattle.spindle_rounds.proofs.BarrierClients.{passed_from, stayed_waiting, went_on}

-- the same seat at the same ledger, call after call
pub same_thread_first : (a : Signals) → IsSameThread a a
same_thread_first a = (refl, refl, (refl, refl, refl))

pub same_thread_on : (a b c : Signals) → IsSameThread a b → IsSameThread b c → IsSameThread a c
same_thread_on a b c x y = (y.0 ∙ x.0, y.1 ∙ x.1, (y.2.0 ∙ x.2.0, y.2.1 ∙ x.2.1, y.2.2 ∙ x.2.2))

module _ {T S N : Type 0} where
  -- who waited is inside the next round, or out
  pub told_out : (a : Barrier T S N) (e : ExitStatus T S N) → IsHeld a → MayLeave a.seat.me.0 → AwaitTold a e → EndedOrLeft a e
  told_out a (status.Exit s) held may told = let u = told.1.0 in let stayed = told.1.1 in let waits = may_wait a.seat.me may in (
    told.0,
    went_on a.seat.me u s.me stayed
        (leave_left u s.me a.sense (stayed_waiting a.seat.me u stayed waits)
        (subst (λ (z : Standing). HasSense z a.sense) (sym (ap (λ (z : Me S (View N)). z.0.standing) stayed.seat)) held.1) told.1.2),
  )
  told_out a (status.Remain c) held may told = told

  -- so it is for a member that arrived before
  pub arrived_out : (a b : Barrier T S N) (e : ExitStatus T S N) → IsHeld a → Keeps a b → ArrivedBy arrival.Arrived a.seat.me b.seat.me → EndedOrLeft b e
      → EndedOrLeft a e
  arrived_out a b (status.Exit s) held keeps came told = let k = keeps.1 in (
    (told.0.0 ∙ (keeps.0.0 ∙ (ap (λ i. i.now.table.shared.table_id) k.0 ∙ sym held.0)), told.0.1 ∙ k.2),
    moved_on _ Away _ (unknown false false) a.seat.me b.seat.me s.me (arrived_waits a.seat.me b.seat.me came) told.1,
  )
  arrived_out a b (status.Remain c) held keeps came told = (
    keeps_on a b c keeps told.0,
    passed_from _ _ a.seat.me b.seat.me c.seat.me refl
        (arrived_waits a.seat.me b.seat.me came) told.1,
  )

  -- the party of these tables is at them still, inside the next round
  pub next_at : (tables : Tables T S N) (a c : Barrier T S N) → IsAt tables a → Keeps a c → InNext a.seat.me c.seat.me → IsAt tables c
  next_at tables a c at keeps next = let k = keeps.1 in (
    keeps.0,
    keeps.0.0 ∙ (ap (λ i. i.now.table.shared.table_id) k.0 ∙ (sym at.0.0 ∙ at.1)),
    (moved_leader (Inside (round_of a.seat.me.0.standing + 1)) (unknown a.seat.me.0.leader false) a.seat.me c.seat.me next).1 ∙ at.2,
  )

  -- or it is out
  pub out_at : (tables : Tables T S N) (a : Barrier T S N) (s : Seat S (View N)) → IsAt tables a → IsIdle a.seat.me.0 → IsSameSeat a.seat s
      → WentOut a.seat.me s.me → IsOut tables s
  out_at tables a s at idle same out = (
    same.0 ∙ at.1,
    (moved_leader Away (unknown false false) a.seat.me s.me out).1 ∙ at.2,
    moved_standing Away (unknown false false) a.seat.me s.me out,
    moved_idle a.seat.me s.me Away (unknown false false) out idle,
  )

  -- its part in the round is as it was
  pub left_leader : (a : Barrier T S N) (s : Seat S (View N)) → WentOut a.seat.me s.me → s.me.0.leader ≡ a.seat.me.0.leader
  left_leader a s out = (moved_leader Away (unknown false false) a.seat.me s.me out).0

  -- who is inside the next round: its part, where it stands, and what it knows of the round
  pub next_leader : (a c : Barrier T S N) → InNext a.seat.me c.seat.me → c.seat.me.0.leader ≡ a.seat.me.0.leader
  next_leader a c next = (moved_leader (Inside (round_of a.seat.me.0.standing + 1)) (unknown a.seat.me.0.leader false) a.seat.me c.seat.me next).0

  pub next_stands : (a c : Barrier T S N) → InNext a.seat.me c.seat.me → c.seat.me.0.standing ≡ Inside (round_of a.seat.me.0.standing + 1)
  next_stands a c next = moved_standing (Inside (round_of a.seat.me.0.standing + 1)) (unknown a.seat.me.0.leader false) a.seat.me c.seat.me next

  pub next_unpublished : (a c : Barrier T S N) → InNext a.seat.me c.seat.me → c.seat.me.0.known.unpublished ≡ a.seat.me.0.leader
  next_unpublished a c next = ap (λ (k : Known). k.unpublished)
      (moved_known (Inside (round_of a.seat.me.0.standing + 1)) (unknown a.seat.me.0.leader false) a.seat.me c.seat.me next)

  -- a member stands at the barrier of its tables
  pub post_at : (p : Member T S N) → IsAt p.tables.now p.barrier
  post_at p = (
    (
      p.seated ∙ sym p.home,
      subst (λ (z : Standing). HasSense z p.barrier.sense) (sym p.inside) p.sense,
      subst (λ (z : Standing). HasPart z p.barrier.is_member) (sym p.inside) p.member,
    ),
    p.seated,
    p.sized,
  )
