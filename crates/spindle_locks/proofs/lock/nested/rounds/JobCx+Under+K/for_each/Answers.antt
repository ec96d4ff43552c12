-- A round that is refused for want of memory is refused.
use Rattle.std.proofs.Common.{vec_len}
use Rattle.std.proofs.lemmas.Result.{on_err_weaker}
use Rattle.spindle_parts.specs.declared.fault.Fault.TheVariants.{Memory}
use Rattle.spindle_locks.specs.Locks.{workers_in}
use Rattle.spindle_locks.specs.Rounds.{job_count, IsRefusal}
use Rattle.spindle_locks.proofs.LeaderRounds.{only_memory, passed_on, some_jobs}
use Rattle.spindle_locks.proofs.lock.nested.rounds.JobCx+Under+K.for_each.Goals as goal

pub returns-then-jobs-eq1 : goal.returns-then-jobs-eq1
returns-then-jobs-eq1 g c = let e = c.run_directly.ensures in let jobs = job_count (vec_len c.args.items) c.args.n_jobs in
    let some = some_jobs (vec_len c.args.items) c.args.n_jobs _ c.is_empty.ensures c.if-is_empty.false c.requires.jobs in
    record {
      answer = e.answer;
      refused = only_memory c.run_directly.result Memory (Unit {0}) (IsRefusal (workers_in c.args.self.now jobs) jobs) (λ _. some)
          (on_err_weaker c.run_directly.result (λ h. (h, tt)) e.memory);
      same = e.same;
    }

pub returns-in_err-with_lock : goal.returns-in_err-with_lock
returns-in_err-with_lock g c = let e = c.in_err-with_lock.ensures in
    let some = some_jobs (vec_len c.args.items) c.args.n_jobs _ c.is_empty.ensures c.if-is_empty.false c.requires.jobs in
    rw (passed_on c.from_residual.result c.from_residual.ensures.1 e.memory) (record { answer = tt; refused = some; same = e.same })
