-- One more number stands at the end.
use Rattle.std.proofs.Common.{◌++◌, ◌∷◌, [], rules, ap, zero-add}
use Rattle.spindle_parts.proofs.ListLaws.{counted_snoc}
use Rattle.spindle_commands.proofs.squares.numbers_below.Goals as goal

pub loop-number-preserved : goal.loop-number-preserved
loop-number-preserved c =
    let n = c.loop-number.number in
    record {
      items = rw (c.push_reserved.ensures.items, counted_snoc 0 n, zero-add n) (ap (λ t. t ++ n ∷ []) c.loop-number.invariant.items);
      len = search rules;
      room = search rules;
    }
