-- So far there is a tray for each thread number.
use Rattle.std.proofs.Common.{◌≡◌, vec_len, vec_capacity}
use Rattle.spindle_locks.proofs.pieces.trays.Trays.new.Given as goal

abbrev pub invariant-loop : goal.invariant-loop
invariant-loop g l = (vec_len l.trays ≡ l.counter) × (vec_capacity l.trays ≡ l.threads)
