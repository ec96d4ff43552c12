-- The numbers up to this one are marked.
use Rattle.std.proofs.Common.{◌≡◌, ◌⊎◌, ◌↔◌, ℕ, ◌<◌, ◌≤◌, length}
use Rattle.spindle_rounds.specs.Leftovers.{IsMarked}
use Rattle.spindle_rounds.proofs.round.stopping.mark.Given as goal

abbrev pub invariant-loop-number : goal.invariant-loop-number
invariant-loop-number l = record {
  count : length l.marks.items ≡ length l.fn.marks.items;
  marked : (k : ℕ) → IsMarked l.marks.items k ↔ (IsMarked l.fn.marks.items k ⊎ ((l.fn.from ≤ k) × (k < l.number) × (k < l.end)));
}
