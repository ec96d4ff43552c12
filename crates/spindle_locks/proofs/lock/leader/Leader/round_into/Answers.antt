-- The round has the jobs that it is asked for, and one that is refused leaves no outputs.
use Rattle.std.proofs.Common.{vec_len, ◌∙◌, refl}
use Rattle.std.proofs.lemmas.Result.{err_from_is_err_and}
use Rattle.spindle_parts.specs.declared.fault.Fault.TheVariants.{Memory}
use Rattle.spindle_locks.specs.Leaders.{workers_of, MadeNoStep}
use Rattle.spindle_locks.specs.Rounds.{IsRefusal}
use Rattle.spindle_locks.proofs.LeaderRounds.{between, jobs_are, only_memory, played_alone, some_jobs}
use Rattle.spindle_locks.proofs.lock.leader.Leader.round_into.Goals as goal

pub returns-in_err-reserve : goal.returns-in_err-reserve
returns-in_err-reserve g c = let p = err_from_is_err_and c.from_residual.result c.from_residual.ensures.1 in
    rw (p.1, p.2) (record {
      answer = tt;
      given_up = c.in_err-reserve.ensures.items ∙ c.clear.ensures.items;
      refused = some_jobs _ c.args.n_jobs _ c.is_empty.ensures c.if-is_empty.false c.requires.jobs;
      trail = refl;
      goes_on = ((refl, refl), between c.args.self.now.leader_member);
    })

pub returns-then-threads-gt1 : goal.returns-then-threads-gt1
returns-then-threads-gt1 g c = let e = c.play.ensures in
    rw (← jobs_are _ _ c.min-jobs.result (vec_len c.args.items) c.args.n_jobs c.len.ensures c.min.ensures c.min-jobs.ensures) (record {
      answer = e.answer;
      given_up = e.given_up;
      refused = e.refused;
      trail = e.trail;
      goes_on = (e.lock, between c.play.new.self.leader_member);
    })

pub returns : goal.returns
returns g c = let e = c.play_here.ensures in let jobs = c.min-jobs.result in let old = c.args.self.now in let new = c.play_here.new.self in
    let same = jobs_are _ _ jobs (vec_len c.args.items) c.args.n_jobs c.len.ensures c.min.ensures c.min-jobs.ensures in
    let some = rw (← same) at (some_jobs (vec_len c.args.items) c.args.n_jobs _ c.is_empty.ensures c.if-is_empty.false c.requires.jobs) in
    rw (← same) (record {
      answer = e.answer;
      given_up = e.given_up;
      refused = only_memory c.play_here.result Memory (MadeNoStep old new) (IsRefusal (workers_of old) jobs) (λ _. some) e.memory;
      trail = played_alone jobs old new c.play_here.result some e.played e.direct e.memory;
      goes_on = (e.lock, between new.leader_member);
    })
