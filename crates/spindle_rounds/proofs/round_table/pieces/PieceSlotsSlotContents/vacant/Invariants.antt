-- So many slots were made, all of them empty, and there is room for the others.
use Rattle.std.proofs.Common.{◌≡◌, ℕ, ◌<◌, ◌≤◌, length, vec_len, vec_capacity}
use mathlib.Core.Option.{some}
use lib.ListN.{get_elem?}
use Rattle.spindle_rounds.specs.declared.round_table.pieces.SlotState.TheVariants.{Empty}
use Rattle.spindle_rounds.proofs.round_table.pieces.PieceSlotsSlotContents.vacant.Given as goal

abbrev pub invariant-loop : goal.invariant-loop
invariant-loop g l = (vec_len l.all ≡ l.counter) × (l.slots ≤ vec_capacity l.all) × ((k : ℕ) → k < length l.all.items → get_elem? l.all.items k ≡ some Empty)
