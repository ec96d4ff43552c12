-- What contracts see of a pool and of a job's context.
use Rattle.std.specs.Prelude.{◌≡◌, ◌<◌, ◌≤◌, ℕ, Bool, Option, Some, false, IfSome, if◌then◌else◌}
use Rattle.spindle_parts.specs.declared.requests.plays.Account.{Account}
use Rattle.spindle_rounds.specs.ThreadCounts.{lock_threads, told_of}
use Rattle.spindle_rounds.specs.declared.threads.tables.JobSite.{JobSite}

-- a pool: its threads, and how many pauses of a wait pass in its locks
-- before a helper's first look at requests
pub record PoolView : Type 0 where
  pub threads : ℕ
  pub patience : ℕ

-- a job's context: its lock's threads, those of the pool, whether the locks that it opens have child slots to stand in,
-- the number of the thread that runs it, how many threads it is told of where that was read before,
-- and what its seat at the lock's ledger knows, with the trail of its own steps
pub record ContextView : Type 0 where
  pub threads : ℕ
  pub pool : ℕ
  pub has_slots : Bool
  pub index : Option ℕ
  pub told : Option ℕ
  pub account : Account

-- the context of a job that runs at this site
abbrev pub context_at : (has_slots : Bool) → JobSite → Account → ContextView
context_at has_slots site account = record {
  threads = site.counts.most;
  pool = site.counts.pool;
  has_slots = has_slots;
  index = site.index;
  told = told_of site.members site.counts.most;
  account = account;
}

-- the same job, whose seat knows this
abbrev pub knowing : Account → ContextView → ContextView
knowing account cx = record cx { account = account }

-- a job that one at this site runs directly: it has that one's index and maximum, no child slots,
-- and is told of as many threads as took part when it began
abbrev pub RunsDirectly : JobSite → ContextView → Type 0
RunsDirectly site job = let most = site.counts.most in (now : ℕ) × (0 < now) × (now ≤ most)
    × IfSome (told_of site.members most) (λ told. now ≡ told)
    × (job ≡ record (context_at false site job.account) { told = Some now })

-- how many threads may take part in the rounds of a lock of so many that a job opens, at most:
-- where there are no child slots, its leader alone
abbrev pub nested_workers : (has_slots : Bool) → (threads : ℕ) → ℕ
nested_workers has_slots threads = if has_slots then threads else 1

-- the same where the job opens it for a round of so many jobs
abbrev pub workers_in : ContextView → (jobs : ℕ) → ℕ
workers_in cx jobs = nested_workers cx.has_slots (lock_threads cx.pool jobs)
