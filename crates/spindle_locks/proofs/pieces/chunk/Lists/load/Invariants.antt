-- What was moved so far stands in reverse, and what is left before it.
use Rattle.std.proofs.Common.{◌≡◌, ◌+◌, ◌++◌, ◌≤◌, ◌-◌, reverse, vec_len, vec_capacity}
use Rattle.spindle_locks.proofs.pieces.chunk.Lists.load.Given as goal

abbrev pub invariant-loop : goal.invariant-loop
invariant-loop g l = record {
  items : l.items.items ++ reverse l.self.todo.items ≡ l.fn.items.items;
  moved : l.from + vec_len l.self.todo ≡ l.counter;
  left : vec_len l.items + vec_len l.self.todo ≡ vec_len l.fn.items;
  block : vec_capacity l.items ≡ vec_capacity l.fn.items;
  done : l.self.done ≡ l.fn.self.done;
  room : vec_len l.fn.items - l.from ≤ vec_capacity l.self.todo;
}
