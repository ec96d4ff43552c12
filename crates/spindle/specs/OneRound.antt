-- A round that opens a lock of its own.
use Rattle.std.specs.Prelude.{ℕ, ◌==◌, if◌then◌else◌}

-- the jobs that are asked for: so many, or as many as threads where that is 0
abbrev pub asked_jobs : (threads n_jobs : ℕ) → ℕ
asked_jobs threads n_jobs = if n_jobs == 0 then threads else n_jobs
