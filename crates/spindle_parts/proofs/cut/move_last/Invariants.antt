-- Moving pieces to a list: what was moved, what is left, and the room.
use Rattle.std.proofs.Common.{◌≡◌, ◌+◌, take, drop, ◌++◌, reverse, vec_len, vec_capacity}
use Rattle.spindle_parts.proofs.cut.move_last.Given as goal

abbrev pub invariant-loop : goal.invariant-loop
invariant-loop g l = record {
  list : l.list.items ≡ l.fn.list.items ++ take l.counter (reverse l.fn.pieces.items);
  pieces : reverse l.pieces.items ≡ drop l.counter (reverse l.fn.pieces.items);
  len : vec_len l.pieces + l.counter ≡ vec_len l.fn.pieces;
  list_len : vec_len l.list ≡ vec_len l.fn.list + l.counter;
  room : vec_capacity l.list ≡ vec_capacity l.fn.list;
}
