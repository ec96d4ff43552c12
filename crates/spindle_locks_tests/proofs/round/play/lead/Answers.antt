-- The leader of a published round may claim.
use Rattle.std.proofs.Common.{arith, ◌∙◌, true}
use Rattle.spindle_rounds.specs.RoundSlots.{bare}
use Rattle.spindle_rounds.proofs.RoundClients.{filled_round, round_published}
use Rattle.spindle_rounds.proofs.RoundOnward.{may_claim}
use Rattle.spindle_locks_tests.proofs.round.play.lead.Goals as goal

pub returns-clause-free : goal.returns-clause-free
returns-clause-free c = let v = c.args.seat.now.me.0 in let l = c.requires.leads in
    let f = filled_round bare _ c.args.jobs l.0.0 v c.fill.new.seat.me.0 l.0.1 l.1 tt c.fill.ensures.filled in
    let p = round_published c.fill.new.seat.me c.publish_try.new.seat.me l.0.0 c.args.jobs true f.4 c.publish_try.ensures.step in
    let free = c.requires.free.3 in
    let a = f.3.0 in let b = f.3.1 in let d = p.3.0 in let e = p.3.1 in
    may_claim c.args.jobs true c.publish_try.new.seat.me.0 p.0 (p.2 ∙ (f.2 ∙ c.requires.free.2)) (omega arith) p.1

pub returns-clause-may : goal.returns-clause-may
returns-clause-may c = let v = c.args.seat.now.me.0 in let l = c.requires.leads in
    let f = filled_round bare _ c.args.jobs l.0.0 v c.fill.new.seat.me.0 l.0.1 l.1 tt c.fill.ensures.filled in
    (round_published c.fill.new.seat.me c.publish_try.new.seat.me l.0.0 c.args.jobs true f.4 c.publish_try.ensures.step).0.may_stop
