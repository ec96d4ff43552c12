-- The turn that ends the wait, after others that didn't.
use Rattle.std.proofs.Common.{of_calls, ℕ, [], ◌∷◌, refl, subst}
use Rattle.spindle_rounds.specs.Holding.{TurnsLast}
use Rattle.spindle_rounds.specs.Passing.{TurnsOn}
use Rattle.spindle_rounds.proofs.BarrierClients.{stayed_first, stayed_on, keeps_first, keeps_on, await_on, may_wait, same_sense}
use Rattle.spindle_rounds.proofs.barrier.Barrier.await_end_while.Goals as goal

pub loop-init : goal.loop-init
loop-init g c = (c.requires.requests, (keeps_first c.args.self c.requires.held, stayed_first _), ([], (refl, refl)))

pub returns-in-Err : goal.returns-in-Err
returns-in-Err g c = let i = c.loop.invariant in let e = c.in-Err.ensures in let t = i.2 in
    let s = same_sense c.args.self c.loop.barrier c.requires.held i.1.0.0 i.1.1 (may_wait c.args.self.seat.me c.requires.waiting) in record {
      status = await_on c.args.self c.loop.barrier c.in-Err.status c.requires.held c.requires.waiting i.1 e.ends;
      turns = (
        t.0,
        c.requests-asked.result,
        c.loop.requests,
        c.requests-asked.new.self,
        c.loop.barrier.seat.me,
        t.1,
        c.requests-asked.ensures,
        subst (λ (z : ℕ). TurnsLast z c.requests-asked.result c.loop.barrier.seat.me c.in-Err.status) s e.last,
      );
    }

pub loop-preserved : goal.loop-preserved
loop-preserved g c = let i = c.loop.invariant in let e = c.in-Ok.ensures in let t = i.2 in
    let s = same_sense c.args.self c.loop.barrier c.requires.held i.1.0.0 i.1.1 (may_wait c.args.self.seat.me c.requires.waiting) in (
      search of_calls,
      (keeps_on c.args.self c.loop.barrier c.in-Ok.barrier i.1.0 e.stays.0, stayed_on _ _ _ i.1.1 e.stays.1),
      (
        c.requests-asked.result ∷ t.0,
        (
          c.loop.requests,
          c.loop.barrier.seat.me,
          t.1,
          c.requests-asked.ensures,
          subst (λ (z : ℕ). TurnsOn z c.requests-asked.result c.loop.barrier.seat.me c.in-Ok.barrier.seat.me) s e.on,
        ),
      ),
    )
