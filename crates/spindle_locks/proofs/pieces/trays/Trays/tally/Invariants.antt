-- So far the pieces of the runs of so many trays are noted, and of so many places of the next; then so many left-over pieces.
use Rattle.std.proofs.Common.{◌+◌, ◌*◌}
use Rattle.spindle_locks.specs.Reports.{IsNoted}
use Rattle.spindle_locks.proofs.pieces.trays.Trays.tally.Given as goal

abbrev pub invariant-loop-thread : goal.invariant-loop-thread
invariant-loop-thread g l = IsNoted g.J.Job.meets g.J.Job.fails l.pieces.items l.pieces.count l.left (l.each * l.thread) l.tally

abbrev pub invariant-loop-place : goal.invariant-loop-place
invariant-loop-place g l = IsNoted g.J.Job.meets g.J.Job.fails l.pieces.items l.pieces.count l.left (l.each * l.thread + l.place) l.tally

abbrev pub invariant-loop-thread-2 : goal.invariant-loop-thread-2
invariant-loop-thread-2 g l = IsNoted g.J.Job.meets g.J.Job.fails l.pieces.items l.pieces.count l.left (l.each * l.threads + l.thread) l.tally
