-- One more piece waits, and at the end all that the thread was dealt.
use Rattle.std.proofs.Common.{◌≡◌, ◌<◌, length, Some, arith}
use Rattle.std.specs.Prelude.{slice_get}
use Rattle.spindle_parts.specs.Pieces.{counted, dealt}
use Rattle.spindle_locks.specs.Trays.{waiting}
use Rattle.spindle_locks.proofs.TrayPlaces.{all_wait, one_more_waits}
use Rattle.spindle_locks.proofs.pieces.place.fill.Goals as goal

pub loop-place-preserved : goal.loop-place-preserved
loop-place-preserved g c =
    let pieces = c.args.pieces.now in
    let count = c.count-count.ensures.number in
    let own = dealt (counted 0 pieces.count) c.args.threads c.args.thread in
    let places = c.loop-place.tray.items in
    let k = c.loop-place.place in
    let number = c.number-number.result in
    let length_is : c.dealt_length-length.result ≡ length own = rw (← count) c.dealt_length-length.ensures in
    let h : k < length own = omega (arith, length_is, c.loop-place-test.true) in
    let h' : k < length places = omega (arith, c.loop-place.invariant.enough, c.loop-place-test.true, c.loop-place.tray.small) in
    let at : slice_get own k ≡ Some number = rw (← count) c.number-number.ensures.number in
    record {
      enough = c.loop-place.invariant.enough;
      waits = rw (c.in_ok-refill.ensures, c.in_ok-run.ensures)
          (one_more_waits (waiting pieces.items pieces.count) own places k number at h h' c.loop-place.invariant.waits);
    }

pub run-requires : goal.run-requires
run-requires g c = rw c.count-count.ensures.number at c.number-number.ensures.below

pub returns : goal.returns
returns g c =
    let pieces = c.args.pieces.now in
    let own = dealt (counted 0 pieces.count) c.args.threads c.args.thread in
    let length_is : c.dealt_length-length.result ≡ length own = rw (← c.count-count.ensures.number) c.dealt_length-length.ensures in
    record {
      waits = all_wait (waiting pieces.items pieces.count) own c.loop-place.tray.items c.dealt_length-length.result c.loop-place.place length_is
          c.loop-place-test.false c.loop-place.auto.place-end c.loop-place.invariant.waits;
    }
