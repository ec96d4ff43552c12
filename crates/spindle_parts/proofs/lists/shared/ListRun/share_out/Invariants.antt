-- So far the runs joined are the first items, and have the first lengths.
use Rattle.std.proofs.Common.{◌≡◌, take, map, length, vec_len, vec_capacity}
use Rattle.spindle_parts.specs.Pieces.{joined, total}
use Rattle.spindle_parts.proofs.lists.shared.ListRun.share_out.Given as goal

abbrev pub invariant-loop-length : goal.invariant-loop-length
invariant-loop-length g l = record {
  from : l.from ≡ total (take l.length-index l.lengths);
  joined : joined l.runs.items ≡ take l.from l.self;
  lengths : map (λ run. length run) l.runs.items ≡ take l.length-index l.lengths;
  count : vec_len l.runs ≡ l.length-index;
  room : vec_capacity l.runs ≡ length l.lengths;
  len : l.len ≡ length l.self;
}
