-- One more chunk takes its length from what is left.
use Rattle.std.proofs.Common.{◌≡◌, ◌+◌, ◌*◌, arith}
use Rattle.spindle_commands.proofs.Grids.{total_snoc}
use Rattle.spindle_commands.proofs.grid.lengths.Goals as goal

pub loop-chunk-preserved : goal.loop-chunk-preserved
loop-chunk-preserved c =
    let next : (c.loop-chunk._chunk + 1) * c.args.size ≡ c.loop-chunk._chunk * c.args.size + c.args.size = grind arith in
    let before = c.loop-chunk.invariant in
    let least = c.min-length.ensures in
    record {
      whole = rw (c.in_ok-push.ensures.items, total_snoc c.loop-chunk.lengths.items c.min-length.result) (omega (arith, before.whole, least));
      left = omega (arith, next, before.left, least);
    }
