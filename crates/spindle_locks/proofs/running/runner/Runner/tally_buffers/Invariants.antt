-- The pieces so far are noted, none of them is lost, and the buffers of the others are as they were.
use Rattle.std.proofs.Common.{◌≡◌, ◌<◌, None, true}
use Rattle.spindle_locks.specs.Reports.{AreBuffers, IsNoted}
use Rattle.spindle_locks.specs.Stops.{HasFailedIn}
use Rattle.spindle_locks.proofs.running.runner.Runner.tally_buffers.Given as goal

abbrev pub invariant-loop-number : goal.invariant-loop-number
invariant-loop-number g l = record {
  fit : AreBuffers g.J.Job.meets l.pieces.items l.pieces.count l.number l.buffers.items;
  noted : IsNoted g.J.Job.meets g.J.Job.fails l.pieces.items l.pieces.count l.left l.number l.tally;
  whole : l.tally.lost ≡ None;
  failed : HasFailedIn g.J.Job.fails l.number l.failed l.buffers.items;
  told : l.failed < l.number → l.tally.failed ≡ true;
  site : l.self.site ≡ l.fn.self.site;
}
