-- So many places were added, and there is room for the others; then, so far the first pieces wait in their places.
use Rattle.std.proofs.Common.{◌≡◌, ◌+◌, ◌≤◌, map, take, vec_len, vec_capacity}
use Rattle.spindle_parts.specs.Pieces.{counted, dealt}
use Rattle.spindle_locks.specs.Trays.{waiting}
use Rattle.spindle_locks.proofs.pieces.place.fill.Given as goal

abbrev pub invariant-loop : goal.invariant-loop
invariant-loop g l = (vec_len l.tray ≡ vec_len l.fn.tray + l.counter) × (vec_len l.fn.tray + l.missing ≤ vec_capacity l.tray)

abbrev pub invariant-loop-place : goal.invariant-loop-place
invariant-loop-place g l =
    let pieces = l.fn.pieces in record {
      enough : l.length ≤ vec_len l.tray;
      waits : take l.place l.tray.items
          ≡ map (waiting pieces.items pieces.count) (take l.place (dealt (counted 0 pieces.count) l.fn.threads l.fn.thread));
    }
