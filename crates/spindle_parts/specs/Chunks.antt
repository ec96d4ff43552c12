-- Chunks of a list, each with the items around it.
use Rattle.std.specs.Prelude.{◌≡◌, ℕ, ◌+◌, ◌-◌, ◌*◌, Bool, true, ◌&&◌, ◌==◌, List, length, map, min}
use Rattle.std.specs.Prelude.{slice_range}
use Rattle.std.specs.Int.{div_ceil}
use Rattle.std.specs.Cmp.Lexicographic.{pointwise}
use Rattle.std.specs.Cmp.{first_so, second_so}
use Rattle.std.specs.Ordering.{on, eq_of_both}
use Rattle.std.proofs.lemmas.Bool.{eqb-true}
use Rattle.spindle_parts.specs.Pieces.{counted}
use Rattle.spindle_parts.specs.Same.{equal_lists_are_same}

-- a run of a list, and where in it the chunk begins and ends
pub record ChunkView (T : Type 0) : Type 0 where
  pub run : List T
  pub from : ℕ
  pub to : ℕ

-- the chunk's own items
abbrev pub own_items : {T : Type 0} → ChunkView T → List T
own_items chunk = slice_range chunk.run chunk.from chunk.to

-- the chunk that begins at a place, of so many items, with so many around it, as far as there are
abbrev pub chunk_from : {T : Type 0} → List T → (size halo start : ℕ) → ChunkView T
chunk_from items size halo start =
    let end = min (start + size) (length items) in
    let first = start - halo in
    record {
      run = slice_range items first (min (end + halo) (length items));
      from = start - first;
      to = end - first;
    }

-- all chunks of so many items, of which the last may be shorter
abbrev pub chunks_around : {T : Type 0} → List T → (size halo : ℕ) → List (ChunkView T)
chunks_around items size halo =
    map (λ number. chunk_from items size halo (size * number))
    (counted 0 (div_ceil (length items) size))

-- chunks are compared item by item, and by where they stand in their runs
abbrev pub equal_chunks : {T : Type 0} → (T → T → Bool) → ChunkView T → ChunkView T → Bool
equal_chunks E = eq_of_both (on (λ chunk. chunk.run) (pointwise E))
    (eq_of_both (on (λ chunk. chunk.from) ◌==◌) (on (λ chunk. chunk.to) ◌==◌))

-- where equal items are the same value, equal chunks are
pub equal_chunks_are_same : {T : Type 0} (E : T → T → Bool)
    → ((x y : T) → E x y ≡ true → x ≡ y)
    → (x y : ChunkView T) → equal_chunks E x y ≡ true → x ≡ y
equal_chunks_are_same E same x y e =
    let places = second_so (pointwise E x.run y.run) ((x.from == y.from) && (x.to == y.to)) e in
    let first = first_so (pointwise E x.run y.run) ((x.from == y.from) && (x.to == y.to)) e in
    let run = equal_lists_are_same E same x.run y.run first in
    let from = eqb-true x.from y.from (first_so (x.from == y.from) (x.to == y.to) places) in
    let to = eqb-true x.to y.to (second_so (x.from == y.from) (x.to == y.to) places) in
    λ i. record { run = run i; from = from i; to = to i }
