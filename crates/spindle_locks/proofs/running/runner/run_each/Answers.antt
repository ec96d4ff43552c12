-- One more item is answered by one more output.
use Rattle.std.proofs.Common.{arith, rules}
use Rattle.spindle_locks.proofs.Outputs.{AddsAnswers-next}
use Rattle.spindle_locks.proofs.running.runner.run_each.Goals as goal

pub loop-item-preserved : goal.loop-item-preserved
loop-item-preserved g c =
    record {
      answered = rw c.push_reserved.ensures.items
          (AddsAnswers-next g.J.Job.meets c.args.items.now c.loop-item.item-index c.item-item.result c.run.result c.args.outputs.now.items
          c.loop-item.outputs.items (omega arith) c.item-item.is c.loop-item.invariant.answered c.run.ensures);
      len = search rules;
      room = search rules;
    }
