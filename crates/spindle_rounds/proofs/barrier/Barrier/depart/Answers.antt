-- The attempt that succeeds, after others that didn't.
use Rattle.std.proofs.Common.{ap}
use Rattle.spindle_rounds.proofs.BarrierClients.{stayed_first, stayed_on, moved_on, went_on, exit_gone, exit_closer, exit_again, keeps_first, keeps_on}
use Rattle.spindle_rounds.proofs.barrier.Barrier.depart.Goals as goal

pub loop-init : goal.loop-init
loop-init g c = (keeps_first c.args.self c.requires.held, stayed_first _)

pub close_out-requires-clause-closer : goal.close_out-requires-clause-closer
close_out-requires-clause-closer g c =
    (_, _, _, ap (λ m. m.0.standing) (exit_closer c.loop.barrier.seat.me c.in-Closer.closer.seat.me c.in-Closer.ensures.1).seat)

pub returns-in-Gone-clause-out : goal.returns-in-Gone-clause-out
returns-in-Gone-clause-out g c = went_on _ _ _ c.loop.invariant.1 (exit_gone c.loop.barrier.seat.me c.in-Gone.seat.me c.in-Gone.ensures.1)

pub returns-in-Gone-clause-told : goal.returns-in-Gone-clause-told
returns-in-Gone-clause-told g c = (_, c.loop.invariant.1, c.in-Gone.ensures.1)

pub returns-in-Closer-clause-told : goal.returns-in-Closer-clause-told
returns-in-Closer-clause-told g c = (_, _, c.loop.invariant.1, c.in-Closer.ensures.1, c.close_out.ensures.out)

pub returns-in-Closer-clause-out : goal.returns-in-Closer-clause-out
returns-in-Closer-clause-out g c = went_on _ _ _ c.loop.invariant.1 (moved_on _ _ _ _ _ _ _
    (exit_closer c.loop.barrier.seat.me c.in-Closer.closer.seat.me c.in-Closer.ensures.1) c.close_out.ensures.out)

pub loop-preserved : goal.loop-preserved
loop-preserved g c = let i = c.loop.invariant in let e = c.in-Again.ensures in (
  keeps_on c.args.self c.loop.barrier c.in-Again.again i.0 e.0,
  stayed_on _ _ _ i.1 (exit_again c.loop.barrier.seat.me c.in-Again.again.seat.me e.1),
)
