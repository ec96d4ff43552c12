-- A thief may claim again, once its share is spent.
use Rattle.std.proofs.Common.{◌∙◌}
use Rattle.spindle_rounds.specs.declared.round.claim.Steal.TheVariants as steal
use Rattle.spindle_rounds.specs.RoundSlots.{bare}
use Rattle.spindle_rounds.proofs.RoundClients.{stolen, claims_again}
use Rattle.spindle_rounds.proofs.RoundOnward.{onward_then}
use Rattle.spindle_locks_tests.proofs.round.play.steal.Goals as goal

pub finish-number-requires-clause-own : goal.finish-number-requires-clause-own
finish-number-requires-clause-own c = (stolen bare c.args.seat.now.me c.try_steal.new.seat.me c.requires.free _ (steal.Job _ _) c.in-Job.ensures.step).2

pub spend-requires-clause-free : goal.spend-requires-clause-free
spend-requires-clause-free c = let a = stolen bare c.args.seat.now.me c.try_steal.new.seat.me c.requires.free _ (steal.Job _ _) c.in-Job.ensures.step in
    let f = c.finish-number.ensures in
    ((a.2.0.0, f.goes_on.0.standing ∙ a.2.0.1), f.share.1, f.goes_on.1.0 ∙ (a.1.0 ∙ c.requires.free.2))

pub returns-in-Job-clause-free : goal.returns-in-Job-clause-free
returns-in-Job-clause-free c = let v = c.args.seat.now.me.0 in let w = c.try_steal.new.seat.me.0 in let u = c.finish-number.new.seat.me.0 in
    let z = c.spend.new.seat.me.0 in
    let a = stolen bare c.args.seat.now.me c.try_steal.new.seat.me c.requires.free _ (steal.Job _ _) c.in-Job.ensures.step in let f = c.finish-number.ensures in
    let s = c.spend.ensures in
    claims_again v z c.requires.free (onward_then v w z a.0 (onward_then w u z f.goes_on.0 s.goes_on.0)) (
      s.goes_on.1.0 ∙ (f.goes_on.1.0 ∙ a.1.0),
      s.goes_on.1.1 ∙ (f.goes_on.1.1 ∙ a.1.1),
    ) s.free.0 s.free.1

pub returns-in-Nothing-clause-free : goal.returns-in-Nothing-clause-free
returns-in-Nothing-clause-free c = (stolen bare c.args.seat.now.me c.try_steal.new.seat.me c.requires.free _ steal.Nothing c.in-Nothing.ensures.step).3

pub returns-in-Again-clause-free : goal.returns-in-Again-clause-free
returns-in-Again-clause-free c = (stolen bare c.args.seat.now.me c.try_steal.new.seat.me c.requires.free _ steal.Again c.in-Again.ensures.step).3
