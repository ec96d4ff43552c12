-- Who has stopped the round may put its share back.
use Rattle.std.proofs.Common.{◌∙◌, sym}
use Rattle.spindle_rounds.specs.declared.round.claim.Steal.TheVariants as steal
use Rattle.spindle_rounds.specs.RoundConditions.{IsItsShare, MayPutBack}
use Rattle.spindle_rounds.specs.RoundSlots.{bare}
use Rattle.spindle_rounds.proofs.RoundClients.{stolen, stop_done, share_put}
use Rattle.spindle_locks_tests.proofs.round.play.steal_and_stop.Goals as goal

pub stop-requires-clause-own : goal.stop-requires-clause-own
stop-requires-clause-own g c = let a = stolen bare c.args.seat.now.me c.try_steal.new.seat.me c.requires.free _ (steal.Job _ _) c.in-Job.ensures.step in
    (a.2, (c.requires.free.1.0, a.0.number ∙ c.requires.free.1.1), a.0.may_stop ∙ c.requires.may)

pub finish-requires-clause-own : goal.finish-requires-clause-own
finish-requires-clause-own g c = let a = stolen bare c.args.seat.now.me c.try_steal.new.seat.me c.requires.free _ (steal.Job _ _) c.in-Job.ensures.step in
    let s = stop_done c.try_steal.new.seat.me c.stop.new.seat.me c.stop.ensures.step in
    ((a.2.0.0, s.0.standing ∙ a.2.0.1), s.3 ∙ a.2.1)

pub put_back-first-requires-clause-free : goal.put_back-first-requires-clause-free
put_back-first-requires-clause-free g c = let a = stolen bare c.args.seat.now.me c.try_steal.new.seat.me c.requires.free _
    (steal.Job _ _) c.in-Job.ensures.step in let s = stop_done c.try_steal.new.seat.me c.stop.new.seat.me c.stop.ensures.step in let f = c.finish.ensures in
    ((a.2.0.0, f.goes_on.0.standing ∙ (s.0.standing ∙ a.2.0.1)), f.share.1, f.goes_on.1.0 ∙ s.1)

pub put_back-second-requires-clause-free : goal.put_back-second-requires-clause-free
put_back-second-requires-clause-free g c = let a = stolen bare c.args.seat.now.me c.try_steal.new.seat.me c.requires.free _
    (steal.Job _ _) c.in-Job.ensures.step in let s = stop_done c.try_steal.new.seat.me c.stop.new.seat.me c.stop.ensures.step in let f = c.finish.ensures in
    let own : IsItsShare c.in-Job.share c.finish.new.seat.me.0 = (a.3.0 ∙ (sym s.2.0 ∙ sym f.share.0.0), a.3.1 ∙ (sym s.2.1 ∙ sym f.share.0.1)) in
    let may : MayPutBack c.finish.new.seat.me.0 = ((a.2.0.0, f.goes_on.0.standing ∙ (s.0.standing ∙ a.2.0.1)), f.share.1, f.goes_on.1.0 ∙ s.1) in
    let p = share_put c.finish.new.seat.me c.put_back-first.new.seat.me 1 c.put_back-first.result c.in-Job.share c.put_back-first.new.share may own
    c.put_back-first.ensures.step in p.2

pub stopped-requires-clause-inside : goal.stopped-requires-clause-inside
stopped-requires-clause-inside g c = let a = stolen bare c.args.seat.now.me c.try_steal.new.seat.me c.requires.free _ (steal.Job _ _) c.in-Job.ensures.step in
    let s = stop_done c.try_steal.new.seat.me c.stop.new.seat.me c.stop.ensures.step in let f = c.finish.ensures in
    let own : IsItsShare c.in-Job.share c.finish.new.seat.me.0 = (a.3.0 ∙ (sym s.2.0 ∙ sym f.share.0.0), a.3.1 ∙ (sym s.2.1 ∙ sym f.share.0.1)) in
    let may : MayPutBack c.finish.new.seat.me.0 = ((a.2.0.0, f.goes_on.0.standing ∙ (s.0.standing ∙ a.2.0.1)), f.share.1, f.goes_on.1.0 ∙ s.1) in
    let p = share_put c.finish.new.seat.me c.put_back-first.new.seat.me 1 c.put_back-first.result c.in-Job.share c.put_back-first.new.share may own
    c.put_back-first.ensures.step in
    let z = share_put c.put_back-first.new.seat.me c.put_back-second.new.seat.me 0 c.put_back-second.result c.put_back-first.new.share
    c.put_back-second.new.share p.2 p.3 c.put_back-second.ensures.step in
    (z.2.0, (c.requires.free.1.0, z.0.number ∙ (p.0.number ∙ (f.goes_on.0.number ∙ (s.0.number ∙ (a.0.number ∙ c.requires.free.1.1))))))
