-- There are as many pieces as jobs, and a refused round leaves the report of no pieces.
use Rattle.std.proofs.Common.{List, vec_len, refl, subst, ◌∙◌, rules}
use Rattle.std.proofs.lemmas.Result.{err_from_is_err_and}
use Rattle.spindle_locks.specs.Reports.{IsReport}
use Rattle.spindle_locks.proofs.LeaderRounds.{between, jobs_are, passed, some_jobs}
use Rattle.spindle_locks.proofs.lock.leader.Leader.try_for_each_into.Goals as goal

pub returns-then-is_empty-clause-report : goal.returns-then-is_empty-clause-report
returns-then-is_empty-clause-report g c = search rules

pub returns-in_err-pieces : goal.returns-in_err-pieces
returns-in_err-pieces g c = let p = err_from_is_err_and c.from_residual.result c.from_residual.ensures.1 in
    rw (p.1, p.2) (record {
      report = tt;
      skipped = λ _. tt;
      given_up = rw c.replace-ran.ensures.after c.new.ensures;
      refused = some_jobs (vec_len c.args.items) c.args.n_jobs _ c.is_empty.ensures c.if-is_empty.false c.requires.jobs;
      trail = refl;
      goes_on = ((refl, refl), between c.args.self.now.leader_member);
    })

pub returns-in_err-report : goal.returns-in_err-report
returns-in_err-report g c = let e = c.in_err-report.ensures in let p = c.in_ok-pieces.ensures in
    let same = p.count ∙ jobs_are _ _ c.min-jobs.result (vec_len c.args.items) c.args.n_jobs c.len.ensures c.min.ensures c.min-jobs.ensures in
    rw (← same, passed c.from_residual-in_err-report.result c.from_residual-in_err-report.ensures.1) (record {
      report = tt;
      skipped = λ _. tt;
      given_up = rw c.replace-ran.ensures.after c.new.ensures;
      refused = rw p.items at e.refused;
      trail = e.trail;
      goes_on = (e.lock, between c.try_pieces.new.self.leader_member);
    })

pub returns : goal.returns
returns g c = let e = c.in_ok-report.ensures in let p = c.in_ok-pieces.ensures in
    let same = p.count ∙ jobs_are _ _ c.min-jobs.result (vec_len c.args.items) c.args.n_jobs c.len.ensures c.min.ensures c.min-jobs.ensures in
    rw (← same) (record {
      report = subst (λ (xs : List g.row.J-In.Denot). IsReport g.J.Job.meets g.J.Job.fails xs c.in_ok-pieces.pieces.count c.in_ok-report.field-0) p.items e.report;
      skipped = e.skipped;
      given_up = tt;
      refused = tt;
      trail = e.trail;
      goes_on = (e.lock, between c.try_pieces.new.self.leader_member);
    })
