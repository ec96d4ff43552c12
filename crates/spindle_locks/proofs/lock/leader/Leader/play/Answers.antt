-- A round that is refused leaves no outputs.
use Rattle.std.proofs.Common.{◌<◌, ap, arith, refl}
use Rattle.std.proofs.lemmas.Result.{err_from_is_err_and}
use Rattle.spindle_locks.proofs.LeaderRounds.{passed_on, played_two}
use Rattle.spindle_locks.proofs.lock.leader.Leader.play.Goals as goal

pub returns-in_err-pieces : goal.returns-in_err-pieces
returns-in_err-pieces g c = let p = err_from_is_err_and c.from_residual.result c.from_residual.ensures.1 in
    let some : 0 < c.args.jobs = omega (arith, c.requires.jobs.0) in
    rw (p.1, p.2) (record { answer = tt; given_up = c.requires.empty; refused = some; trail = refl; lock = (refl, refl) })

pub returns-in_err-hand_out : goal.returns-in_err-hand_out
returns-in_err-hand_out g c = rw (passed_on c.from_residual-in_err-hand_out.result c.from_residual-in_err-hand_out.ensures.1 c.in_err-hand_out.ensures)
    (record { answer = tt; given_up = c.requires.empty; refused = omega (arith, c.requires.jobs.0); trail = refl; lock = (refl, refl) })

pub returns-in-Ok : goal.returns-in-Ok
returns-in-Ok g c = let p = c.in_ok-pieces.ensures in let a = c.play_ahead-first.ensures in
    record {
      answer = rw p.items at c.in-Ok.ensures.answers;
      given_up = tt;
      refused = tt;
      trail = played_two c.args.jobs c.requires.jobs.0 (rw p.count at a.played);
      lock = (ap (λ t. t.now.counts.most) a.tables, ap (λ t. t.now.counts.threads) a.tables);
    }

pub returns : goal.returns
returns g c = let p = c.in_ok-pieces.ensures in let a = c.play_ahead-first.ensures in
    record {
      answer = tt;
      given_up = c.clear.ensures.items;
      refused = (rw p.count at c.in-Err.ensures.lost, c.requires.jobs.0, c.requires.threads);
      trail = rw p.count at a.played;
      lock = (ap (λ t. t.now.counts.most) a.tables, ap (λ t. t.now.counts.threads) a.tables);
    }
