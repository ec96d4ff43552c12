-- The strips so far have the items of the runs so far, and their lengths, and know the edge on both sides.
use Rattle.std.proofs.Common.{◌≡◌, All, length, map}
use Rattle.spindle_parts.proofs.lists.shared.SharedList.strips.Given as goal

abbrev pub invariant-loop-run : goal.invariant-loop-run
invariant-loop-run g l = record {
  items : map (λ strip. strip.items.items) l.strips.items ≡ l.yielded;
  lengths : map (λ strip. length strip.items.items) l.strips.items ≡ map (λ run. length run) l.yielded;
  edges : All (λ strip. (strip.before ≡ l.fn.edge) × (strip.behind ≡ l.fn.edge)) l.strips.items;
  notes : All (λ strip. strip.note ≡ l.fn.note) l.strips.items;
}
