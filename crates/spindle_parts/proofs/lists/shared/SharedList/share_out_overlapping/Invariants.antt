-- The chunks so far are those of the first numbers.
use Rattle.std.proofs.Common.{◌≡◌, ◌*◌, map, vec_len, vec_capacity}
use Rattle.spindle_parts.specs.Pieces.{counted}
use Rattle.spindle_parts.specs.Chunks.{chunk_from}
use Rattle.spindle_parts.proofs.lists.shared.SharedList.share_out_overlapping.Given as goal

abbrev pub invariant-loop-number : goal.invariant-loop-number
invariant-loop-number g l = record {
  chunks : l.chunks.items ≡ map (λ number. chunk_from l.self l.size l.halo (l.size * number)) (counted 0 l.number);
  count : vec_len l.chunks ≡ l.number;
  room : vec_capacity l.chunks ≡ l.count;
}
