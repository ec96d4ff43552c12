-- The numbers are the items, and where there is no memory for them, nothing was done.
use Rattle.std.proofs.Common.{refl}
use Rattle.std.proofs.lemmas.Result.{err_from_is_err_and}
use Rattle.spindle_locks.proofs.LeaderRounds.{between, some_numbers}
use Rattle.spindle_locks.proofs.lock.leader.Leader.for_each_raw.Goals as goal

pub returns-in_err-numbers : goal.returns-in_err-numbers
returns-in_err-numbers g c = let p = err_from_is_err_and c.from_residual.result c.from_residual.ensures.1 in
    rw (p.1, p.2) (record {
      answer = tt;
      refused = some_numbers _ c.if-n_jobs-eq0.false;
      trail = refl;
      goes_on = ((refl, refl), between c.args.self.now.leader_member);
    })

pub returns : goal.returns
returns g c = let l = c.in_ok-numbers.ensures in let e = rw (l.items, l.len) at c.for_each.ensures in
    record { answer = e.answer; refused = e.refused; trail = e.trail; goes_on = e.goes_on }
