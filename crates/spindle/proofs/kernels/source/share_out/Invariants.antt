-- So far the parts joined are the first items.
use Rattle.std.proofs.Common.{◌≡◌, take, map, length, vec_len, vec_capacity}
use Rattle.spindle_parts.specs.Pieces.{joined, total}
use Rattle.spindle.proofs.kernels.source.share_out.Given as goal

abbrev pub invariant-loop-length : goal.invariant-loop-length
invariant-loop-length g l = record {
  from : l.from ≡ total (take l.length-index l.lengths);
  joined : joined (map g.S.Source.items l.parts.items) ≡ take l.from (g.S.Source.items l.source);
  count : vec_len l.parts ≡ l.length-index;
  room : vec_capacity l.parts ≡ length l.lengths;
  len : l.len ≡ length (g.S.Source.items l.source);
}
