-- So many copies so far.
use Rattle.std.proofs.Common.{◌≡◌, vec_len}
use Rattle.spindle_examples.proofs.clocked.Clocked.copies.Given as goal

abbrev pub invariant-loop-copy : goal.invariant-loop-copy
invariant-loop-copy l = vec_len l.copies ≡ l._copy
