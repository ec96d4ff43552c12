-- What is left is what the lengths so far don't make up.
use Rattle.std.proofs.Common.{◌≡◌, ◌+◌, ◌-◌, ◌*◌}
use Rattle.spindle_parts.specs.Pieces.{total}
use Rattle.spindle_commands.proofs.grid.lengths.Given as goal

abbrev pub invariant-loop-chunk : goal.invariant-loop-chunk
invariant-loop-chunk l = record {
  whole : total l.lengths.items + l.left ≡ l.fn.len;
  left : l.left ≡ l.fn.len - l._chunk * l.fn.size;
}
