-- Lists in chunks, and the room for them.
use Rattle.std.proofs.Common.{◌≡◌, ℕ, zero, suc, ◌+◌, ◌-◌, ◌/◌, ◌<◌, ◌≤◌, List, [], ◌∷◌, ◌++◌, length, take, drop, refl, ap, sym, ◌∙◌, arith}
use Rattle.std.proofs.Common.{length-append}
use Rattle.std.proofs.lemmas.List.{drop-take, nil_from_length, take_all}
use Rattle.std.proofs.lemmas.Slice.Zip.{AllZip-long}
use Rattle.std.specs.List.{AllZip}
use Rattle.spindle_locks.specs.InPlace.{HaveCapacity, last_pieces}
use Rattle.spindle_locks.specs.PieceRuns.{piece_start, items_before, piece_at}

module _ {T : Type 0} where
  pub take_front : (xs ys : List T) → take (length xs) (xs ++ ys) ≡ xs
  take_front [] ys = refl
  take_front (x ∷ xs) ys = ap (λ (l : List T). x ∷ l) (take_front xs ys)

  pub drop_front : (xs ys : List T) → drop (length xs) (xs ++ ys) ≡ ys
  drop_front [] ys = refl
  drop_front (x ∷ xs) ys = drop_front xs ys

  -- lists that end in one item each: the items, and what stands before them
  pub snoc_last : (xs ys : List T) (a b : T) → xs ++ a ∷ [] ≡ ys ++ b ∷ [] → (xs ≡ ys) × (a ≡ b)
  snoc_last xs ys a b e = let n : length xs ≡ length ys = omega (arith, ap length e, length-append xs (a ∷ []), length-append ys (b ∷ [])) in
      let one : a ∷ [] ≡ b ∷ [] = sym (drop_front xs (a ∷ [])) ∙ (ap (drop (length xs)) e ∙ (ap (λ k. drop k (ys ++ b ∷ [])) n ∙ drop_front ys (b ∷ []))) in (
        sym (take_front xs (a ∷ [])) ∙ (ap (take (length xs)) e ∙ (ap (λ k. take k (ys ++ b ∷ [])) n ∙ take_front ys (b ∷ []))),
        cc,
      )

  -- what stands before a place of a list, and what stands from it on
  pub parts_at : (xs front back : List T) (from : ℕ) → front ++ back ≡ xs → length front ≡ from → (front ≡ take from xs) × (back ≡ drop from xs)
  parts_at xs front back from e n = (
    sym (take_front front back) ∙ (ap (take (length front)) e ∙ ap (λ k. take k xs) n),
    sym (drop_front front back) ∙ (ap (drop (length front)) e ∙ ap (λ k. drop k xs) n),
  )

  -- what became of all items has room where they were
  pub all_fit : (R : T → T → Type 0) (items chunk updated : List T) (len cap left most : ℕ) → AllZip R chunk updated → chunk ≡ items
      → (len ≡ length items) × (len ≤ cap) → left ≡ 0 → most ≡ cap → left + length updated ≤ most
  all_fit R items chunk updated len cap left most z e fit none same = omega (arith, AllZip-long R chunk updated z, ap length e)

  -- of the items before the next piece, those from this one's start on are the piece
  pub piece_last : (items : List T) (pieces k : ℕ) → drop (piece_start (length items) pieces k) (items_before items pieces (k + 1)) ≡ piece_at items pieces k
  piece_last items pieces k = let from = piece_start (length items) pieces k in let to = piece_start (length items) pieces (k + 1) in
      let e : to ≡ from + (to - from) = omega arith in ap (λ n. drop from (take n items)) e ∙ drop-take from (to - from) items

-- one more with room, and one less
pub room_more : (n : ℕ) (rooms : List ℕ) (room : ℕ) → HaveCapacity n rooms → n ≤ room → HaveCapacity n (rooms ++ room ∷ [])
unfolding HaveCapacity
room_more n [] room h le = (le, tt {0})
room_more n (r ∷ rooms) room h le = (h.0, room_more n rooms room h.1 le)

pub room_less : (n : ℕ) (rooms : List ℕ) (room : ℕ) → HaveCapacity n (rooms ++ room ∷ []) → HaveCapacity n rooms × (n ≤ room)
unfolding HaveCapacity
room_less n [] room h = (tt {0}, h.0)
room_less n (r ∷ rooms) room h = let more = room_less n rooms room h.1 in ((h.0, more.0), more.1)

module _ {T : Type 0} where
  -- behind the last piece there is nothing
  pub all_before : (items : List T) (pieces : ℕ) → 0 < pieces → items_before items pieces pieces ≡ items
  all_before items pieces some = take_all (piece_start (length items) pieces pieces) items (omega arith)

  -- so many pieces are so many
  pub last_many : (items : List T) (pieces n : ℕ) → length (last_pieces items pieces n) ≡ n
  unfolding last_pieces
  last_many items pieces zero = refl
  last_many items pieces (suc n) =
      omega (arith, last_many items pieces n, length-append (last_pieces items pieces n) (piece_at items pieces (pieces - suc n) ∷ []))

-- where the pieces end, the items end
pub start_all : (len pieces : ℕ) → 0 < pieces → piece_start len pieces pieces ≡ len
start_all len pieces some = omega arith

-- a piece is at most one item longer than the shortest
pub piece_short : (len pieces number : ℕ) → piece_start len pieces (number + 1) - piece_start len pieces number ≤ len / pieces + 1
piece_short len pieces number = omega arith

-- a piece begins where the items before it end
pub start_before : (len pieces done l from left : ℕ) → l ≡ len → done < pieces → from ≡ piece_start l pieces (pieces - 1 - done)
    → left ≡ piece_start len pieces (pieces - done) → from ≤ left
start_before len pieces done l from left same lt begins ends = let m : ℕ = pieces - 1 - done in let next : pieces - done ≡ m + 1 = omega arith in
    let up : piece_start len pieces m ≤ piece_start len pieces (m + 1) = omega arith in
    omega (arith, up, begins ∙ ap (λ (n : ℕ). piece_start n pieces m) same, ends ∙ ap (λ (j : ℕ). piece_start len pieces j) next)

-- items are moved one by one: some are left before the last turn, there is room for the next, and at the end all from a place on were moved
pub some_left : (left moved from turn end len : ℕ) → left + moved ≡ len → from + moved ≡ turn → turn < end → end ≡ len → 0 < left
some_left left moved from turn end len all at lt long = omega arith

pub next_has_room : (moved from turn end len cap : ℕ) → from + moved ≡ turn → turn < end → end ≡ len → len - from ≤ cap → moved < cap
next_has_room moved from turn end len cap at lt long room = omega arith

pub moved_all : (left moved from turn end len : ℕ) → left + moved ≡ len → from + moved ≡ turn → end ≤ turn → (from ≤ end → turn ≤ end) → end ≡ len → from ≤ len
    → left ≡ from
moved_all left moved from turn end len all at last within long le = omega (arith, within (omega (arith, long, le)))

-- each turn takes one and puts one
pub some_ready : (left turn turns : ℕ) → left + turn ≡ turns → turn < turns → 0 < left
some_ready left turn turns all lt = omega arith

pub one_fits : (many turn turns room : ℕ) → many ≡ turn → turn < turns → turns ≤ room → many < room
one_fits many turn turns room here lt fits = omega arith

pub none_left : (turns turn : ℕ) → turns ≤ turn → turns - turn ≡ 0
none_left turns turn last = omega arith

pub nothing_left : {T : Type 0} (xs : List T) (left turn turns : ℕ) → left ≡ length xs → left + turn ≡ turns → turns ≤ turn → xs ≡ []
nothing_left xs left turn turns long all last = nil_from_length xs (omega (arith, long))
