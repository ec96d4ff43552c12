-- The pieces are published, and after the round's end the slots hold their answers.
use Rattle.std.proofs.Common.{◌≡◌, ℕ, false, ap, ◌∙◌, sym, subst}
use Rattle.spindle_rounds.specs.RoundConditions.{HasSense, HasPart}
use Rattle.spindle_rounds.specs.RoundPieces.{pieces, IsUnrun}
use Rattle.spindle_rounds.specs.Seating.{slots_of}
use Rattle.spindle_rounds.specs.SlotLoops.{IsEmpty, IsPiece, Turning}
use Rattle.spindle_rounds.specs.SlotSteps.{TakenOut}
use Rattle.spindle_rounds.proofs.PieceRounds.{may_take, still_published, answered_then}
use Rattle.spindle_rounds.proofs.SlotHands.{turning_less, still_out, passed_taking, played_taking}
use Rattle.spindle_rounds.proofs.Workers.{passed_after, played_after}
use Rattle.spindle_locks.proofs.SlotRounds.{may_await}
use Rattle.spindle_locks.proofs.running.in_slots.play_held.Goals as goal

pub publish_held-requires-clause-held : goal.publish_held-requires-clause-held
publish_held-requires-clause-held g c = let A = g.A.PieceKind.answers in let s : ℕ = slots_of c.args.table.now.tables.now.round.init in
    let many : s ≡ c.args.table.now.slots = c.args.table.now.many in let m = c.args.barrier.now.seat.me in let j : ℕ = c.args.jobs in
    rw c.seat.ensures.value
    (turning_less IsEmpty (λ k y. IsUnrun A y) IsPiece IsPiece s j m.1 (subst (λ (k : ℕ). Turning IsEmpty IsPiece k j m.1) (sym many) c.requires.pieces)
    (λ k y e. subst (IsUnrun A) (sym e) (tt {0})) (λ k y w. w))

pub take_answered-requires-clause-leads : goal.take_answered-requires-clause-leads
take_answered-requires-clause-leads g c = let A = g.A.PieceKind.answers in let s : ℕ = slots_of c.args.table.now.tables.now.round.init in
    let j : ℕ = c.args.jobs in let many : s ≡ c.args.table.now.slots = c.args.table.now.many in let m = c.args.barrier.now.seat.me in
    let t = subst (λ (k : ℕ). Turning IsEmpty IsPiece k j m.1) (sym many) c.requires.pieces in
    let w = c.publish_held.new.seat.me in let u = c.work.new.seat.me in let worked = c.work.ensures in
    rw c.seat-3.ensures.value (may_take A s j u c.end_round.new.barrier.seat.me
    (may_await A s j m w u t (rw c.seat.ensures.value at c.publish_held.ensures.published) (rw c.seat-2.ensures.value at worked.went.on) c.requires.leads.leads
    worked.idle worked.done) c.end_round.ensures.next)

pub take_answered-requires-clause-published : goal.take_answered-requires-clause-published
take_answered-requires-clause-published g c = let A = g.A.PieceKind.answers in let s : ℕ = slots_of c.args.table.now.tables.now.round.init in
    let j : ℕ = c.args.jobs in let many : s ≡ c.args.table.now.slots = c.args.table.now.many in let m = c.args.barrier.now.seat.me in
    let t = subst (λ (k : ℕ). Turning IsEmpty IsPiece k j m.1) (sym many) c.requires.pieces in
    let w = c.publish_held.new.seat.me in let u = c.work.new.seat.me in let worked = c.work.ensures in
    rw c.seat-3.ensures.value (still_published A s j u c.end_round.new.barrier.seat.me
    (may_await A s j m w u t (rw c.seat.ensures.value at c.publish_held.ensures.published) (rw c.seat-2.ensures.value at worked.went.on) c.requires.leads.leads
    worked.idle worked.done) c.end_round.ensures.next)

pub returns-clause-answered : goal.returns-clause-answered
returns-clause-answered g c = let A = g.A.PieceKind.answers in let s : ℕ = slots_of c.args.table.now.tables.now.round.init in
    let j : ℕ = c.args.jobs in let many : s ≡ c.args.table.now.slots = c.args.table.now.many in let m = c.args.barrier.now.seat.me in
    let t = subst (λ (k : ℕ). Turning IsEmpty IsPiece k j m.1) (sym many) c.requires.pieces in
    let w = c.publish_held.new.seat.me in let u = c.work.new.seat.me in let e = c.end_round.new.barrier.seat.me in let worked = c.work.ensures in
    let shown = rw c.seat.ensures.value at c.publish_held.ensures.published in
    let on = rw c.seat-2.ensures.value at worked.went.on in
    let waits = may_await A s j m w u t shown on c.requires.leads.leads worked.idle worked.done in
    let x = c.take_answered.new.seat.me in let taken = rw c.seat-3.ensures.value at c.take_answered.ensures.step in
    let next = c.end_round.ensures.next in record {
      shown = w;
      worked = u;
      ended = e;
      found = taken.0;
      published = shown;
      on = on;
      none = worked.holds worked.keeps;
      next = next;
      taken = subst (λ (k : ℕ). TakenOut (pieces A) k taken.0 e x) many taken.1;
      answered = answered_then A s j u e waits next x.1 (rw c.seat-3.ensures.value at c.take_answered.ensures.answered);
    }

pub returns-clause-leads : goal.returns-clause-leads
returns-clause-leads g c = let A = g.A.PieceKind.answers in let s : ℕ = slots_of c.args.table.now.tables.now.round.init in
    let w = c.publish_held.new.seat.me in let u = c.work.new.seat.me in let e = c.end_round.new.barrier.seat.me in
    let shown = rw c.seat.ensures.value at c.publish_held.ensures.published in let worked = c.work.ensures in
    let on = rw c.seat-2.ensures.value at worked.went.on in let same = rw c.seat-3.ensures.value at c.take_answered.ensures.seat in
    let x = c.take_answered.new.seat.me in let taken = rw c.seat-3.ensures.value at c.take_answered.ensures.step in let r = c.requires.leads in
    let k = c.end_round.ensures.held in
    let h = passed_taking (pieces A) s taken.0 w.0 e x taken.1 (passed_after w.0 u e on worked.idle c.end_round.ensures.next) in
    let still = ap (λ z. z.0.standing) taken.1.2 in let table = same.0 ∙ k.0.0 in record {
      at = (
        (
          table,
          subst (λ st. HasSense st c.end_round.new.barrier.sense) (sym still) k.0.1,
          subst (λ st. HasPart st c.end_round.new.barrier.is_member) (sym still) k.0.2,
        ),
        table ∙ (ap (λ z. z.now.table.shared.table_id) k.1.0 ∙ (sym r.at.0.0 ∙ r.at.1)),
        h.threads ∙ (shown.seat.2 ∙ r.at.2),
      );
      leads = h.leader ∙ (shown.seat.1 ∙ r.leads);
      between = ((_, h.standing), h.unpublished ∙ (shown.seat.1 ∙ r.leads));
      idle = h.idle;
      out = still_out A (λ k y. Unit {0}) s c.args.jobs taken.0 e x taken.1;
    }

pub returns-clause-played : goal.returns-clause-played
returns-clause-played g c = let A = g.A.PieceKind.answers in let s : ℕ = slots_of c.args.table.now.tables.now.round.init in let j : ℕ = c.args.jobs in
    let m = c.args.barrier.now.seat.me in let w = c.publish_held.new.seat.me in let u = c.work.new.seat.me in let e = c.end_round.new.barrier.seat.me in
    let shown = rw c.seat.ensures.value at c.publish_held.ensures.published in let worked = c.work.ensures in
    let on = rw c.seat-2.ensures.value at worked.went.on in let taken = rw c.seat-3.ensures.value at c.take_answered.ensures.step in
    played_taking (pieces A) s taken.0 j m.0 e c.take_answered.new.seat.me taken.1
    (played_after j false m.0 w.0 u e (shown.seat.0, shown.published) on worked.idle c.end_round.ensures.next)
