-- The leader's seats stay its own while the helpers' are split from them, and there is room for the helpers that are left.
use Rattle.std.proofs.Common.{◌≡◌, ◌≤◌, vec_len, vec_capacity}
use Rattle.spindle_rounds.specs.Opening.{AreSeatsAt}
use Rattle.spindle_locks.proofs.lock.root.LeaderStart.start_helpers.Given as goal

abbrev pub invariant-loop-asked : goal.invariant-loop-asked
invariant-loop-asked g l = record {
  seats : AreSeatsAt l.fn.self.tables.now l.seats;
  few : vec_len l.threads ≤ l.asked;
  room : vec_capacity l.threads ≡ vec_capacity l.fn.self.threads;
}
