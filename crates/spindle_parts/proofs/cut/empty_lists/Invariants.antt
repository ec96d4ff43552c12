-- Making the empty lists: as many as there were turns, each with its room.
use Rattle.std.proofs.Common.{◌≡◌, ◌≤◌, [], map, take, replicate, vec_len, vec_capacity}
use Rattle.spindle_parts.specs.Pieces.{lengths_of}
use Rattle.spindle_parts.proofs.cut.empty_lists.Given as goal

abbrev pub invariant-loop-thread : goal.invariant-loop-thread
invariant-loop-thread g l = record {
  empty : map (λ list. list.items) l.lists.items ≡ replicate l.thread [];
  rooms : map (λ list. vec_capacity list) l.lists.items ≡ take l.thread (lengths_of l.count l.threads);
  len : vec_len l.lists ≡ l.thread;
  room : l.threads ≤ vec_capacity l.lists;
}
