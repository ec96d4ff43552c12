-- The slots go back, with a piece for each job, and then the round is filled and published.
use Rattle.spindle_rounds.proofs.PieceRounds.{may_fill, may_publish, now_published}
use Rattle.spindle_rounds.proofs.SlotLoops.{pieces_held}
use Rattle.spindle_rounds.proofs.round.pieces.Round+PieceSlots+A.publish_held.Goals as goal

pub give_slots-requires-clause-leads : goal.give_slots-requires-clause-leads
give_slots-requires-clause-leads g c = let r = c.requires in let h = pieces_held g.A.PieceKind.answers _ c.args.jobs c.args.seat.now.me r.leads r.held r.out in
    (h.0, h.1, h.2, h.3)

pub fill-requires-clause-leads : goal.fill-requires-clause-leads
fill-requires-clause-leads g c = let A = g.A.PieceKind.answers in let n = c.args.jobs in let m = c.args.seat.now.me in let r = c.requires in
    let s = c.give_slots.ensures.step in may_fill A n m c.give_slots.new.seat.me (pieces_held A _ n m r.leads r.held r.out) s.0 s.1

pub publish-requires-clause-leads : goal.publish-requires-clause-leads
publish-requires-clause-leads g c = let A = g.A.PieceKind.answers in let n = c.args.jobs in let m = c.args.seat.now.me in let r = c.requires in
    let s = c.give_slots.ensures.step in may_publish A n m c.give_slots.new.seat.me (pieces_held A _ n m r.leads r.held r.out) s.0 s.1 _
    c.fill.new.seat.me c.fill.ensures.filled

pub returns-clause-published : goal.returns-clause-published
returns-clause-published g c = let A = g.A.PieceKind.answers in let n = c.args.jobs in let m = c.args.seat.now.me in let r = c.requires in
    let s = c.give_slots.ensures.step in now_published A n m c.give_slots.new.seat.me (pieces_held A _ n m r.leads r.held r.out) s.0 s.1 _
    c.fill.new.seat.me c.fill.ensures.filled c.publish.new.seat.me c.fill.ensures.seat.1 c.publish.ensures.step
