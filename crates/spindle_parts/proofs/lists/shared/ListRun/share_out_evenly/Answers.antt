-- The lengths of the pieces add up to the whole list.
use Rattle.std.proofs.Common.{◌∙◌, rules}
use Rattle.spindle_parts.proofs.ListChunks.{total-cut_lengths}
use Rattle.spindle_parts.proofs.lists.shared.ListRun.share_out_evenly.Goals as goal

pub share_out-requires : goal.share_out-requires
share_out-requires g c =
    let lengths = c.as_slice.ensures.value ∙ c.in_ok-lengths.ensures.lengths in
    record { whole = rw lengths (total-cut_lengths c.len.result c.args.pieces (search rules) ∙ search rules) }
