-- Dealing: what is left of the common runs and of the rest, and what the lists hold.
use Rattle.std.proofs.Common.{◌≡◌, ◌-◌, ◌*◌, ◌++◌, [], map, take, drop, reverse, replicate, vec_len, vec_capacity}
use Rattle.spindle_parts.specs.Pieces.{counted, dealt, lengths_of}
use Rattle.spindle_parts.proofs.cut.deal.Given as goal

abbrev pub invariant-loop-list : goal.invariant-loop-list
invariant-loop-list g l = record {
  own : reverse l.pieces.items ≡ drop (l.each * l.list-index) (take (l.each * l.threads) l.fn.pieces.items);
  rest : reverse l.rest.items ≡ drop l.list-index (drop (l.each * l.threads) l.fn.pieces.items);
  lists : map (λ list. list.items) l.list-items ≡ map (dealt l.fn.pieces.items l.threads) (counted 0 l.list-index) ++ replicate (l.threads - l.list-index) [];
  rooms : map (λ list. vec_capacity list) l.list-items ≡ lengths_of (vec_len l.fn.pieces) l.threads;
}
