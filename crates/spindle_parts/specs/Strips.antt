-- Strips of a list, each of which knows the item before it and the one behind it.
use Rattle.std.specs.Prelude.{List, [], ◌∷◌, map, get_or}
use Rattle.spindle_parts.specs.Pieces.{joined}
use Rattle.spindle_parts.specs.declared.lists.strips.Strip.{Strip}

-- the first item, or what stands behind all
abbrev pub first_of : {T : Type 0} → List T → (behind : T) → T
first_of items behind = get_or items 0 behind

-- the last item, or what stands before
abbrev pub last_of : {T : Type 0} → (before : T) → List T → T
last_of before [] = before
last_of before (here ∷ items) = last_of here items

-- the items of all strips, one behind the other
abbrev pub items_of : {T N : Type 0} → List (Strip T N) → List T
items_of strips = joined (map (λ strip. strip.items.items) strips)

-- the strips between two items, each told what stands before it and behind it
abbrev pub told : {T N : Type 0} → (before : T) → List (Strip T N) → (behind : T) → List (Strip T N)
told before [] behind = []
told before (strip ∷ strips) behind =
    record { items = strip.items; before = before; behind = first_of (items_of strips) behind; note = strip.note }
    ∷ told (last_of before strip.items.items) strips behind
