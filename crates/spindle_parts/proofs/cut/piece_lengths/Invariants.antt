-- The lengths: first the longer ones, then the others.
use Rattle.std.proofs.Common.{◌≡◌, ◌+◌, ◌-◌, ◌++◌, replicate}
use Rattle.spindle_parts.proofs.cut.piece_lengths.Given as goal

abbrev pub invariant-loop-number : goal.invariant-loop-number
invariant-loop-number l = l.lengths.items ≡ replicate l._number (l.short + 1)

abbrev pub invariant-loop-number-2 : goal.invariant-loop-number-2
invariant-loop-number-2 l = l.lengths.items ≡ replicate l.longer (l.short + 1) ++ replicate (l._number - l.longer) l.short
