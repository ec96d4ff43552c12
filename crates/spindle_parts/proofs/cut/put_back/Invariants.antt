-- Putting pieces back: what is there and what is to come make the whole.
use Rattle.std.proofs.Common.{◌≡◌, ◌+◌, ◌≤◌, map, vec_len, vec_capacity, ◌++◌, reverse}
use Rattle.spindle_parts.specs.Pieces.{joined}
use Rattle.spindle_parts.proofs.cut.put_back.Given as goal

abbrev pub invariant-loop : goal.invariant-loop
invariant-loop g l = record {
  together : l.items.items ++ joined (reverse (map (λ p. p.items.items) l.pieces.items))
      ≡ l.fn.items.items ++ joined (reverse (map (λ p. p.items.items) l.fn.pieces.items));
  len : vec_len l.pieces + l.counter ≡ vec_len l.fn.pieces;
  room : vec_capacity l.fn.items ≤ vec_capacity l.items;
}
