-- Passes over a list, in which each value becomes another, by the value before it and the one behind it.
use Rattle.std.specs.Prelude.{◌≡◌, ◌≤◌, ℕ, zero, suc, Bool, true, false, ◌&&◌, List, [], ◌∷◌}
use Rattle.std.specs.Cmp.Lexicographic.{pointwise}
use Rattle.spindle_parts.specs.Strips.{first_of}
use Rattle.spindle_parts.specs.declared.lists.strips.Strip.{Strip}
use Rattle.spindle.specs.declared.kernels.passing.Note.{Note}

-- values that stand between two others, after one pass
abbrev pub passed : {V : Type 0} → (V → V → V → V) → (before : V) → List V → (behind : V) → List V
passed becomes before [] behind = []
passed becomes before (here ∷ values) behind = becomes before here (first_of values behind) ∷ passed becomes here values behind

-- the values after so many passes, with the edge before and behind them
abbrev pub passed_times : {V : Type 0} → (V → V → V → V) → (edge : V) → ℕ → List V → List V
passed_times becomes edge zero values = values
passed_times becomes edge (suc n) values = passed becomes edge (passed_times becomes edge n values) edge

-- whether there were passes, and each value has settled in the last of so many
abbrev pub settled_after : {V : Type 0} → (V → V → V → V) → (V → V → Bool) → (edge : V) → ℕ → List V → Bool
settled_after becomes settles edge zero values = false
settled_after becomes settles edge (suc n) values =
    pointwise settles (passed_times becomes edge n values) (passed_times becomes edge (suc n) values)

-- in none of the passes before so many had all values settled
abbrev pub NoneSettled : {V : Type 0} → (V → V → V → V) → (V → V → Bool) → (edge : V) → ℕ → List V → Type 0
NoneSettled becomes settles edge zero values = Unit {0}
NoneSettled becomes settles edge (suc n) values = NoneSettled becomes settles edge n values
    × (settled_after becomes settles edge n values ≡ false)

-- so many passes made the new values of the old ones; they ended where all had settled for the first time, or after as many as there may be
abbrev pub HavePassed : {V : Type 0} → (V → V → V → V) → (V → V → Bool) → (edge : V) → (most : ℕ)
    → (old : List V) → (count : ℕ) → (settled : Bool) → (new : List V) → Type 0
HavePassed becomes settles edge most old count settled new = (new ≡ passed_times becomes edge count old)
    × (count ≤ most)
    × (settled ≡ settled_after becomes settles edge count old)
    × (settled ≡ false → count ≡ most)
    × NoneSettled becomes settles edge count old

-- the kernel that its job passes over it with
abbrev pub IsNotedBy : {V K : Type 0} → K → Strip V (Note K) → Type 0
IsNotedBy kernel strip = strip.note.kernel ≡ kernel

-- whether the values of all strips have settled
abbrev pub all_settled : {V K : Type 0} → List (Strip V (Note K)) → Bool
all_settled [] = true
all_settled (strip ∷ strips) = strip.note.settled && all_settled strips

-- what a pass makes of a strip, and what it notes
abbrev pub IsPassedOver : {V K : Type 0} → (K → V → V → V → V) → (K → V → V → Bool)
    → (old new : Strip V (Note K)) → Type 0
IsPassedOver becomes settles old new = (new.note.kernel ≡ old.note.kernel)
    × (new.items.items ≡ passed (becomes old.note.kernel) old.before old.items.items old.behind)
    × (new.note.settled ≡ pointwise (settles old.note.kernel) old.items.items new.items.items)
