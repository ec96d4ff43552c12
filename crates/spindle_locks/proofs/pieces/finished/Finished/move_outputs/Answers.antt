-- As many outputs as inputs, so there is room for them.
use Rattle.std.proofs.Common.{◌+◌, ◌≤◌, length, ap, arith, vec_len, vec_capacity}
use Rattle.std.proofs.lemmas.Slice.Zip.{AllZip-long}
use Rattle.spindle_locks.specs.Done.{inputs_of}
use Rattle.spindle_locks.proofs.pieces.finished.Finished.move_outputs.Goals as goal

pub unwrap-requires : goal.unwrap-requires
unwrap-requires g c =
    let piece = c.self.inside in
    let same_length = AllZip-long g.J.Job.meets (inputs_of piece.inputs) piece.outputs.items c.self.invariant in
    let room : vec_len c.args.outputs.now + vec_len piece.outputs ≤ vec_capacity c.args.outputs.now = omega
    (arith, same_length, ap (λ done. length done.inputs) c.self.view_is, c.requires.room) in
    c.append.ensures.succeeds room
