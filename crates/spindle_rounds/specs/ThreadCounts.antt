-- How large a lock is.
use Rattle.std.specs.Prelude.{ℕ, min, max, Option, Some, None}
use Rattle.spindle_parts.specs.Words.{most_parties}
use Rattle.spindle_rounds.specs.declared.threads.tables.MemberCount.{MemberCount}
use Rattle.spindle_rounds.specs.declared.threads.tables.MemberCount.TheVariants.{Barrier, Present, Fixed}

-- the threads of a lock: the least of the pool's, the caller's wish, and what a barrier can hold
abbrev pub lock_threads : (pool wish : ℕ) → ℕ
lock_threads pool wish = min (min pool wish) most_parties

-- how many threads a job of a lock of so many is told of, where that was read before
abbrev pub told_of : MemberCount → (threads : ℕ) → Option ℕ
told_of (Fixed now) threads = Some (min (max now 1) threads)
told_of (Barrier init) threads = None
told_of (Present present) threads = None
