-- So many passes are made, and the values have settled after none of them.
use Rattle.std.proofs.Common.{◌≡◌, suc, All}
use Rattle.spindle_parts.specs.Strips.{items_of}
use Rattle.spindle.specs.SlotLeaders.{threads_of, lock_slots}
use Rattle.spindle.specs.Passes.{passed_times, IsNotedBy, NoneSettled}
use Rattle.spindle.proofs.kernels.passing.play_passes.Given as goal

abbrev pub invariant-loop-count : goal.invariant-loop-count
invariant-loop-count g l = (threads_of l.leader ≡ threads_of l.fn.leader) × (lock_slots l.leader ≡ lock_slots l.fn.leader)
    × ((kernel : g.row.K.Denot) → All (IsNotedBy kernel) l.fn.strips.items
    → All (IsNotedBy kernel) l.strips.items
    × (items_of l.strips.items ≡ passed_times (g.K.Stencil.becomes kernel) l.edge l.count (items_of l.fn.strips.items))
    × NoneSettled (g.K.Stencil.becomes kernel) (g.K.Stencil.settles kernel) l.edge (suc l.count) (items_of l.fn.strips.items))
