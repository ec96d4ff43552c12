-- One more number stands at the end.
use Rattle.std.proofs.Common.{◌++◌, ◌∷◌, [], rules, ap, zero-add}
use Rattle.spindle_parts.proofs.ListLaws.{counted_snoc}
use Rattle.spindle_locks.proofs.lock.leader.numbers.Goals as goal

pub loop-number-preserved : goal.loop-number-preserved
loop-number-preserved c =
    record {
      items = rw (c.push_reserved.ensures.items, counted_snoc 0 c.loop-number.number, zero-add c.loop-number.number)
          (ap (λ t. t ++ (c.loop-number.number ∷ [])) c.loop-number.invariant.items);
      len = search rules;
      room = search rules;
    }
