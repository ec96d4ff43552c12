-- The lengths of the parts add up to the whole.
use Rattle.std.proofs.Common.{◌∙◌, rules}
use Rattle.spindle_parts.proofs.ListChunks.{total-cut_lengths}
use Rattle.spindle.proofs.kernels.source.parts_of.Goals as goal

pub share_out-requires : goal.share_out-requires
share_out-requires g c =
    let lengths = c.as_slice.ensures.value ∙ c.in_ok-lengths.ensures.lengths in
    record { whole = rw lengths (total-cut_lengths c.count.result c.args.pieces (search rules) ∙ c.count.ensures) }
