-- The look that sees the end, after others that didn't.
use Rattle.spindle_rounds.proofs.BarrierClients.{stayed_first, stayed_on, passed_on, look_ended, look_on, stayed_waiting, keeps_first, keeps_on}
use Rattle.spindle_rounds.proofs.threads.publish_and_end.await_end.Goals as goal

pub loop-init : goal.loop-init
loop-init g c = (keeps_first c.args.barrier.now c.requires.held, stayed_first _)

pub returns-in-Ended-clause-next : goal.returns-in-Ended-clause-next
returns-in-Ended-clause-next g c = let s = c.loop.invariant.1 in let i = c.loop.invariant.0 in
    passed_on _ _ _ s (look_ended c.loop.barrier.seat.me c.look.new.self.seat.me c.loop.barrier.sense
    (stayed_waiting _ _ s c.requires.waiting) i.0.1 c.in-Ended.ensures.step)

pub loop-preserved : goal.loop-preserved
loop-preserved g c = let s = c.loop.invariant.1 in let i = c.loop.invariant.0 in (
  keeps_on c.args.barrier.now c.loop.barrier c.look.new.self i c.look.ensures.held.0,
  stayed_on _ _ _ s (look_on c.loop.barrier.seat.me c.look.new.self.seat.me c.loop.barrier.sense
      (stayed_waiting _ _ s c.requires.waiting) i.0.1 c.look.result c.in_default.not-Ended c.look.ensures.step),
)
