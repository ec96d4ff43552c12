-- The run of a tray ends where the next one begins, and the left-over pieces end where all do.
use Rattle.std.proofs.Common.{◌∙◌, arith}
use Rattle.spindle_locks.proofs.Addresses.{run_ends, next_run, all_runs, all_numbers, rest_within}
use Rattle.spindle_locks.proofs.Reports.{noted_at}
use Rattle.spindle_locks.proofs.pieces.trays.Trays.tally.Goals as goal

pub loop-thread-init : goal.loop-thread-init
loop-thread-init g c = noted_at _ _ _ _ _ _ (omega arith) c.requires.fresh

pub loop-place-init : goal.loop-place-init
loop-place-init g c = noted_at _ _ _ _ _ _ (omega arith) c.loop-thread.invariant

pub loop-place-preserved : goal.loop-place-preserved
loop-place-preserved g c = noted_at _ _ _ _ _ _ (omega arith) c.note.ensures.noted

pub loop-thread-preserved : goal.loop-thread-preserved
loop-thread-preserved g c = noted_at _ _ _ _ _ _ (next_run _ _ _ c.loop-place-test.false c.loop-place.auto.place-end) c.loop-place.invariant

pub loop-thread-2-init : goal.loop-thread-2-init
loop-thread-2-init g c = noted_at _ _ _ _ _ _ (all_runs _ _ _ c.loop-thread-test.false c.loop-thread.auto.thread-end) c.loop-thread.invariant

pub loop-thread-2-preserved : goal.loop-thread-2-preserved
loop-thread-2-preserved g c = noted_at _ _ _ _ _ _ (omega arith) c.note-in-loop-thread-2.ensures.noted

pub overflow_mul-number : goal.overflow_mul-number
overflow_mul-number g c = omega (arith, run_ends c.count-count.result c.len-threads.result c.loop-thread.thread (omega arith) c.loop-thread-test.true)

pub overflow_add-number : goal.overflow_add-number
overflow_add-number g c = omega (arith, run_ends c.count-count.result c.len-threads.result c.loop-thread.thread (omega arith) c.loop-thread-test.true)

pub note-requires-clause-next : goal.note-requires-clause-next
note-requires-clause-next g c = omega (arith, run_ends c.count-count.result c.len-threads.result c.loop-thread.thread (omega arith) c.loop-thread-test.true)

pub overflow_mul-number-in-loop-thread-2 : goal.overflow_mul-number-in-loop-thread-2
overflow_mul-number-in-loop-thread-2 g c = omega (arith, rest_within c.count-count.result c.len-threads.result c.loop-thread-2.thread c.loop-thread-2-test.true)

pub overflow_add-number-in-loop-thread-2 : goal.overflow_add-number-in-loop-thread-2
overflow_add-number-in-loop-thread-2 g c = omega (arith, rest_within c.count-count.result c.len-threads.result c.loop-thread-2.thread c.loop-thread-2-test.true)

pub note-requires-in-loop-thread-2-clause-next : goal.note-requires-in-loop-thread-2-clause-next
note-requires-in-loop-thread-2-clause-next g c =
    omega (arith, rest_within c.count-count.result c.len-threads.result c.loop-thread-2.thread c.loop-thread-2-test.true, c.count-count.ensures.number)

pub returns : goal.returns
returns g c = let turn = c.loop-thread-2 in record {
  noted = noted_at _ _ _ _ _ _ (all_numbers c.count-count.result c.len-threads.result turn.thread c.loop-thread-2-test.false turn.auto.thread-end
      ∙ c.count-count.ensures.number) turn.invariant;
}
