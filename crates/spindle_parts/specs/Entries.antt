-- The parties' entries and the list of those that saw the stop,
-- and what a write to one entry leaves of them.
use Rattle.std.specs.Prelude.{◌≡◌, ◌≢◌, ℕ, ◌≤◌, Bool, ◌==◌, List, slice_get, Option, Some, None}
use Rattle.std.specs.List.{IsDistinct}
use Rattle.std.specs.Ordering.{nat_cmp}
use Rattle.std.specs.BTreeMap.{BTreeMap, get, btree_map_len}
use Rattle.spindle_parts.specs.declared.steps.registers.Entry.{Entry}

-- a member's own sense, and none of another
abbrev pub sense_of : Option Entry → Option Bool
sense_of None = None
sense_of (Some e) = e.sense

-- the job that the entry's party runs
abbrev pub running_of : Option Entry → Option ℕ
running_of None = None
running_of (Some e) = e.running

-- the party has an entry
abbrev pub IsKnown : BTreeMap ℕ Entry → ℕ → Type 0
IsKnown entries p = (e : Entry) × (get nat_cmp entries p ≡ Some e)

-- nobody loses an entry
abbrev pub KeepsKnown : BTreeMap ℕ Entry → BTreeMap ℕ Entry → Type 0
KeepsKnown old new = (p : ℕ) → get nat_cmp new p ≡ None → get nat_cmp old p ≡ None

-- the party's entry is e, the others' are as they were, and no party is new
pub record Writes (old new : BTreeMap ℕ Entry) (p : ℕ) (e : Entry) : Type 0 where
  pub mine : get nat_cmp new p ≡ Some e
  pub others : (q : ℕ) → q ≢ p → get nat_cmp new q ≡ get nat_cmp old q
  pub size : btree_map_len new ≡ btree_map_len old

-- the party has that sense and runs what it ran, and the others' entries are as they were
pub record Seats (old new : BTreeMap ℕ Entry) (p : ℕ) (sense : Option Bool) : Type 0 where
  pub sense_is : sense_of (get nat_cmp new p) ≡ sense
  pub running : running_of (get nat_cmp new p) ≡ running_of (get nat_cmp old p)
  pub others : (q : ℕ) → q ≢ p → get nat_cmp new q ≡ get nat_cmp old q

-- every party has its sense and its job as before
pub record KeepsSeats (old new : BTreeMap ℕ Entry) : Type 0 where
  pub sense : (q : ℕ) → sense_of (get nat_cmp new q) ≡ sense_of (get nat_cmp old q)
  pub running : (q : ℕ) → running_of (get nat_cmp new q) ≡ running_of (get nat_cmp old q)

-- who saw the stop stands in its list once, at its entry's mark;
-- there is room in it for every party that came
pub record IsMarked (entries : BTreeMap ℕ Entry) (saw : List ℕ) (capacity : ℕ) : Type 0 where
  pub marked : (i p : ℕ) → slice_get saw i ≡ Some p → (e : Entry) × (get nat_cmp entries p ≡ Some e)
      × (e.mark ≡ i)
  pub distinct : IsDistinct (λ p q. p == q) saw
  pub room : btree_map_len entries ≤ capacity
