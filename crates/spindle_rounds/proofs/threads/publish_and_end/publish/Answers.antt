-- What was filled is published, and stands in the leader's trail.
use Rattle.std.proofs.Common.{◌≡◌, ℕ, ◌∷◌, Some, inl, sym, ap, subst, ◌∙◌}
use Rattle.spindle_rounds.specs.RoundAnswers.{FilledBy}
use Rattle.spindle_rounds.specs.RoundSteps.{publishing, round_of}
use Rattle.spindle_rounds.specs.RoundShown.{Showed}
use Rattle.spindle_rounds.specs.RoundViews.{shown_of, stopped_of, stops_of}
use Rattle.spindle_rounds.proofs.RoundClients.{filled_round, round_published}
use Rattle.spindle_rounds.specs.Members.{LastPublished}
use Rattle.spindle_rounds.proofs.threads.publish_and_end.publish.Goals as goal

-- the seat that the barrier lends is its own, at the fill and at the publish
filled : (g : _) (c : goal.After-wake_for_news g)
    → FilledBy c.args.tables.now.round.init.threads c.args.published.jobs c.args.barrier.now.seat.me.0 c.fill.new.seat.me.0
filled g c = subst (λ s. FilledBy c.args.tables.now.round.init.threads c.args.published.jobs s.me.0 c.fill.new.seat.me.0) c.seat.ensures.value
    c.fill.ensures.filled

shown : (g : _) (c : goal.After-wake_for_news g)
    → c.store_published.new.seat.me ≡ (publishing c.args.published.may_stop c.args.published.jobs c.fill.new.seat.me.0, c.fill.new.seat.me.1)
shown g c = subst (λ s. c.store_published.new.seat.me ≡ (publishing c.args.published.may_stop c.args.published.jobs s.me.0, s.me.1)) c.seat-2.ensures.value
    c.store_published.ensures.step

pub returns-clause-published : goal.returns-clause-published
returns-clause-published g c = let m = c.args.barrier.now.seat.me in let l = c.requires.leads in let D = g.D.SlotContents.discipline in
    let n = c.args.published.jobs in let may_stop = c.args.published.may_stop in
    let may = subst (λ (q : ℕ). D.may_publish q n m.0.board) (ap round_of l.0.1) c.requires.pieces in
    let f = filled_round D _ n l.0.0 m.0 c.fill.new.seat.me.0 l.0.1 l.1 may (filled g c) in
    let p = round_published c.fill.new.seat.me c.store_published.new.seat.me l.0.0 n may_stop f.4 (shown g c) in
    (ap (λ z. z.0.standing) (shown g c) ∙ (f.4 ∙ sym l.0.1), rw (ap round_of l.0.1) (p.4 ∙ ap (λ t. Showed l.0.0 n may_stop ∷ shown_of t) f.1))

pub returns-clause-stops : goal.returns-clause-stops
returns-clause-stops g c = let m = c.args.barrier.now.seat.me in let l = c.requires.leads in let D = g.D.SlotContents.discipline in
    let n = c.args.published.jobs in let may = subst (λ (q : ℕ). D.may_publish q n m.0.board) (ap round_of l.0.1) c.requires.pieces in
    let f = filled_round D _ n l.0.0 m.0 c.fill.new.seat.me.0 l.0.1 l.1 may (filled g c) in
    ap (λ z. stops_of z.0.trail) (shown g c) ∙ ap stopped_of f.1

pub returns-clause-on : goal.returns-clause-on
returns-clause-on g c = let m = c.args.barrier.now.seat.me in let l = c.requires.leads in let D = g.D.SlotContents.discipline in
    let n = c.args.published.jobs in let may = subst (λ (q : ℕ). D.may_publish q n m.0.board) (ap round_of l.0.1) c.requires.pieces in
    let f = filled_round D _ n l.0.0 m.0 c.fill.new.seat.me.0 l.0.1 l.1 may (filled g c) in
    let p = round_published c.fill.new.seat.me c.store_published.new.seat.me l.0.0 n c.args.published.may_stop f.4 (shown g c) in
    (p.0, λ plain. p.1)

pub returns-clause-last : goal.returns-clause-last
returns-clause-last g c = let m = c.args.barrier.now.seat.me in let l = c.requires.leads in let D = g.D.SlotContents.discipline in
    let n = c.args.published.jobs in let b = c.args.published.may_stop in
    let may = subst (λ (q : ℕ). D.may_publish q n m.0.board) (ap round_of l.0.1) c.requires.pieces in
    let f = filled_round D _ n l.0.0 m.0 c.fill.new.seat.me.0 l.0.1 l.1 may (filled g c) in let here = ap round_of (f.4 ∙ sym l.0.1) in
    subst (LastPublished (round_of m.0.standing) n b) (sym (ap (λ z. z.0) (shown g c)))
    (ap (λ (q : ℕ). Some q) here, inl (ap (λ (q : ℕ). Showed q n b) here))
