-- The items before those that are left were updated.
use Rattle.std.proofs.Common.{◌≡◌, ◌+◌, ◌≤◌, reverse, vec_len, vec_capacity}
use Rattle.spindle_locks.specs.InPlace.{HasUpdated}
use Rattle.spindle_locks.proofs.running.in_place.update_each.Given as goal

abbrev pub invariant-loop : goal.invariant-loop
invariant-loop g l = record {
  updated : HasUpdated g.J.Updates.updated (reverse l.fn.lists.todo.items) (reverse l.lists.todo.items) l.lists.done.items;
  len : vec_len l.lists.done ≡ l.counter;
  left : vec_len l.lists.todo + l.counter ≡ l.end;
  room : l.end ≤ vec_capacity l.lists.done;
}
