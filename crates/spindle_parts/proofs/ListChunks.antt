-- The chunks of a list, one behind the other, are the list.
use Rattle.std.proofs.Common.{◌≡◌, ℕ, zero, suc, ◌+◌, ◌-◌, ◌*◌, ◌<◌, ◌≤◌, List, [], ◌∷◌, ◌++◌, length, map, min, take, slice_range, ap, sym, refl, ◌∙◌, arith}
use Rattle.std.proofs.lemmas.List.{take_all}
use Rattle.std.proofs.lemmas.Grind.{div_ceil_times}
use Rattle.std.proofs.Math.Seq.{take-add}
use Rattle.std.specs.Int.{div_ceil}
use Rattle.spindle_parts.specs.Pieces.{joined, counted, total, cut_lengths}
use Rattle.spindle_parts.proofs.ListLaws.{counted_suc, joined_snoc, map_snoc, total-lengths}
use Rattle.spindle_parts.specs.Chunks.{ChunkView, own_items, chunk_from, chunks_around}
use Rattle.spindle_parts.proofs.ListRuns.{slice_range-slice_range}

-- the lengths of the pieces of a list, empty or not, add up
pub total-cut_lengths : (len pieces : ℕ) → (0 < len → 0 < pieces) → total (cut_lengths len pieces) ≡ len
total-cut_lengths zero pieces some = let none : min 0 pieces ≡ 0 = omega arith in rw none refl
total-cut_lengths (suc len) pieces some = let h = some (omega arith) in total-lengths (suc len) (min (suc len) pieces) (omega arith)

-- chunks begin within the list
pub begins_within : (len size number : ℕ) → 0 < size → number < div_ceil len size → size * number < len
begins_within len size number some lt =
    let count : ℕ = div_ceil len size in let more : ℕ = count - (number + 1) in
    let is : count ≡ number + 1 + more = omega (arith, lt) in
    let whole : count * size ≡ size * number + size + more * size = rw is (grind arith) in
    omega (arith, (div_ceil_times len size some).1, whole)

module _ {T : Type 0} (items : List T) (size halo : ℕ) where
  -- a chunk's own items are those of the list from its start on
  own_of_chunk : (start : ℕ) → start ≤ length items → own_items (chunk_from items size halo start) ≡ slice_range items start (min (start + size) (length items))
  own_of_chunk start le =
      let end : ℕ = min (start + size) (length items) in let first : ℕ = start - halo in
      let from : first + (start - first) ≡ start = omega arith in
      let to : first + (end - first) ≡ end = omega (arith, le) in
      slice_range-slice_range items first (min (end + halo) (length items)) (start - first) (end - first) (omega (arith, le)) (omega (arith, le))
      ∙ ap (λ n. slice_range items n (first + (end - first))) from
      ∙ ap (λ n. slice_range items start n) to

  joined_up_to : (n : ℕ) → ((i : ℕ) → i < n → size * i ≤ length items)
      → joined (map own_items (map (λ number. chunk_from items size halo (size * number)) (counted 0 n))) ≡ take (min (size * n) (length items)) items
  joined_up_to zero within = let none : min (size * 0) (length items) ≡ 0 = omega arith in rw none refl
  joined_up_to (suc n) within =
      let chunk : ℕ → ChunkView T = λ number. chunk_from items size halo (size * number) in
      let le = within n (omega arith) in
      let end : ℕ = min (size * n + size) (length items) in
      let here : min (size * n) (length items) ≡ size * n = omega (arith, le) in
      let next : size * suc n ≡ size * n + size = grind arith in
      let before = joined_up_to n (λ i lt. within i (omega arith)) ∙ ap (λ k. take k items) here in
      let number : 0 + n ≡ n = omega arith in
      let length_here : size * n + (end - size * n) ≡ end = omega (arith, le) in
      let whole : min (size * suc n) (length items) ≡ end = omega (arith, next) in
      let own : ChunkView T → List T = own_items in
      ap (λ l. joined (map own (map chunk l))) (counted_suc 0 n)
      ∙ ap (λ k. joined (map own (map chunk (counted 0 n ++ k ∷ [])))) number
      ∙ ap (λ l. joined (map own l)) (map_snoc chunk (counted 0 n) n)
      ∙ ap joined (map_snoc own (map chunk (counted 0 n)) (chunk n))
      ∙ joined_snoc (map own (map chunk (counted 0 n))) (own (chunk n))
      ∙ ap (λ l. l ++ own (chunk n)) before
      ∙ ap (λ l. take (size * n) items ++ l) (own_of_chunk (size * n) le)
      ∙ sym (take-add (size * n) (end - size * n) items)
      ∙ ap (λ k. take k items) (length_here ∙ sym whole)

  -- all chunks joined are the list
  pub joined_chunks : 0 < size → joined (map own_items (chunks_around items size halo)) ≡ items
  joined_chunks some =
      let count : ℕ = div_ceil (length items) size in
      let whole : size * count ≡ count * size = grind arith in
      let enough : length items ≤ min (size * count) (length items) = omega (arith, whole, (div_ceil_times (length items) size some).0) in
      joined_up_to count (λ i lt. let e = begins_within (length items) size i some lt in omega (arith, e))
      ∙ take_all (min (size * count) (length items)) items enough
