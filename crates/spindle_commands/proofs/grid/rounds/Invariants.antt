-- Copies of zero have become copies of the number of rounds.
use Rattle.std.proofs.Common.{◌≡◌, ℕ, replicate}
use Rattle.spindle_commands.proofs.grid.rounds.Given as goal

abbrev pub invariant-loop-round : goal.invariant-loop-round
invariant-loop-round g l = (n : ℕ) → l.fn.numbers.items ≡ replicate n 0 → l.numbers.items ≡ replicate n l._round
