-- Each turn moves the last item that is left.
use Rattle.std.proofs.Common.{◌++◌, ◌∷◌, [], reverse, arith, ap, sym, ◌∙◌, append_assoc}
use mathlib.Core.List.{reverse-append}
use Rattle.spindle_locks.proofs.InPlace.{moved_all, next_has_room, parts_at, some_left}
use Rattle.spindle_locks.proofs.pieces.chunk.Lists.load.Goals as goal

pub take_last-requires : goal.take_last-requires
take_last-requires g c = let i = c.loop.invariant in some_left _ _ _ _ _ _ i.left i.moved c.loop-test.true c.len-end.ensures

pub push_reserved-requires : goal.push_reserved-requires
push_reserved-requires g c = let i = c.loop.invariant in next_has_room _ _ _ _ _ _ i.moved c.loop-test.true c.len-end.ensures i.room

pub loop-preserved : goal.loop-preserved
loop-preserved g c = let i = c.loop.invariant in let x = c.take_last.result in
    let left = c.take_last.new.self.items in let todo = c.loop.self.todo.items in record {
      items = ap (λ t. left ++ reverse t) c.push_reserved.ensures.items ∙ (ap (λ t. left ++ t) (reverse-append todo (x ∷ []))
          ∙ (sym (append_assoc left (x ∷ []) (reverse todo)) ∙ (ap (λ t. t ++ reverse todo) (sym c.take_last.ensures.items) ∙ i.items)));
      moved = omega (arith, c.push_reserved.ensures.len, i.moved);
      left = omega (arith, c.push_reserved.ensures.len, c.take_last.ensures.len, i.left);
      done = i.done;
      block = c.take_last.ensures.capacity ∙ i.block;
      room = omega (arith, c.push_reserved.ensures.capacity, i.room);
    }

pub returns-clause-left : goal.returns-clause-left
returns-clause-left g c = let i = c.loop.invariant in
    let n = moved_all _ _ _ _ _ _ i.left i.moved c.loop-test.false c.loop.auto.counter-end c.len-end.ensures c.requires.from in
    (parts_at _ _ _ _ i.items (sym c.loop.items.ok.0 ∙ n)).0

pub returns-clause-len : goal.returns-clause-len
returns-clause-len g c = let i = c.loop.invariant in
    moved_all _ _ _ _ _ _ i.left i.moved c.loop-test.false c.loop.auto.counter-end c.len-end.ensures c.requires.from

pub returns-clause-taken : goal.returns-clause-taken
returns-clause-taken g c = let i = c.loop.invariant in
    let n = moved_all _ _ _ _ _ _ i.left i.moved c.loop-test.false c.loop.auto.counter-end c.len-end.ensures c.requires.from in
    (parts_at _ _ _ _ i.items (sym c.loop.items.ok.0 ∙ n)).1
