-- Cutting from the back: the pieces so far, their lengths and numbers, and what is left.
use Rattle.std.proofs.Common.{◌≡◌, ◌≤◌, ◌-◌, ◌++◌, take, drop, vec_len, vec_capacity, map, length, reverse}
use Rattle.spindle_parts.specs.Pieces.{joined, counted, total}
use Rattle.spindle_parts.proofs.cut.cut.Given as goal

abbrev pub invariant-loop-done : goal.invariant-loop-done
invariant-loop-done g l = record {
  joined : l.items.items ++ joined (reverse (map (λ p. p.items.items) l.pieces.items)) ≡ l.fn.items.items;
  lengths : reverse (map (λ p. vec_len p.items) l.pieces.items) ≡ drop (l.count - l.done) l.lengths.items;
  numbers : reverse (map (λ p. p.number) l.pieces.items) ≡ counted (l.count - l.done) l.done;
  left : length l.items.items ≡ total (take (l.count - l.done) l.lengths.items);
  len : vec_len l.pieces ≡ l.done;
  room : l.count ≤ vec_capacity l.pieces;
  block : vec_capacity l.items ≡ vec_capacity l.fn.items;
}
