-- Dealing: each list has room for what it gets, and gets what is its own.
use Rattle.std.proofs.Common.{◌≡◌, ℕ, ◌+◌, ◌-◌, ◌*◌, ◌/◌, ◌<◌, ◌≤◌, [], ◌++◌, map, take, drop, set, min, reverse, replicate, get_or, List, Vec, Global, vec_len}
use Rattle.std.proofs.Common.{vec_capacity, arith, rules, sym, ap, ◌∙◌, length, refl}
use Rattle.std.proofs.lemmas.List.{get_or-map, length-map, length-drop, length-take, drop-drop, map-set, set-get_or, length-reverse, take_at, drop_all}
use Rattle.std.proofs.lemmas.List.{nil_from_length, append-nil, reverse-reverse}
use Rattle.std.proofs.lemmas.Simd.{map-map}
use Rattle.std.proofs.Math.Nat.{min-le_left}
use Rattle.spindle_parts.specs.declared.cut.Piece.{Piece}
use Rattle.spindle_parts.specs.Pieces.{counted, dealt, lengths_of}
use Rattle.spindle_parts.proofs.Deals.{length-lengths_of, fits, own_run, own_left, list_empty, lists_next, map-dealt_all, dealt_all}
use Rattle.spindle_parts.proofs.cut.deal.Goals as goal

-- as many lists as lengths
count : {H : Type 0} (f : H → ℕ) (lists : List H) (len threads : ℕ) → 0 < threads → map f lists ≡ lengths_of len threads → length lists ≡ threads
count f lists len threads h e = sym (length-map lists f) ∙ ap length e ∙ length-lengths_of len threads h

-- at its turn a list is empty, and has room for its run and for one of the rest where there is one for it
turn : {A : Type 0} (hs : List (Vec A Global)) (ps : List A) (len t i : ℕ) (d : Vec A Global) → i < length hs → i < t
    → map (λ (h : Vec A Global). vec_capacity h) hs ≡ lengths_of len t
    → map (λ (h : Vec A Global). h.items) hs ≡ map (dealt ps t) (counted 0 i) ++ replicate (t - i) []
    → ((get_or hs i d).items ≡ []) × (len / t + min 1 (len - len / t * t - i) ≤ vec_capacity (get_or hs i d))
turn {A} hs ps len t i d h k rooms lists = (
  sym (get_or-map (λ (h : Vec A Global). h.items) hs i d [] h) ∙ ap (λ z. get_or z i []) lists ∙ list_empty (dealt ps t) t i k,
  rw (← get_or-map (λ (h : Vec A Global). vec_capacity h) hs i d 0 h, rooms) (fits len t i (len - len / t * t - i) k refl),
)

pub loop-list-init : goal.loop-list-init
loop-list-init g c =
    let t = c.args.threads in let ps : List (Piece g.row.T.Denot) = c.args.pieces.now.items in let each = c.len-2.result / t in
    let z : each * 0 ≡ 0 = omega arith in
    let n : t - 0 ≡ t = omega arith in
    record {
      own = rw (c.reverse.ensures.items, c.in_ok-rest.ensures.items, z) (reverse-reverse (take (each * t) ps));
      rest = rw (c.reverse-2.ensures.items, c.in_ok-rest.ensures.tail) (reverse-reverse (drop (each * t) ps));
      lists = rw (c.deref_mut-list-items.ensures.value, n) c.in_ok-lists.ensures.empty;
      rooms = rw c.deref_mut-list-items.ensures.value (c.in_ok-lists.ensures.rooms ∙ ap (λ n. lengths_of n t) c.len.ensures);
    }

pub move_last-requires : goal.move_last-requires
move_last-requires g c =
    let P : Type 0 = Piece g.row.T.Denot in let H : Type 0 = Vec P Global in let t = c.args.threads in let len = vec_len c.args.pieces.now in
    let each = c.len-2.result / t in let i = c.loop-list.list-index in let hs : List H = c.loop-list.list-items in
    let same : each ≡ len / t = ap (λ z. z / t) c.len-2.ensures in
    let n : length hs ≡ t = count (λ (h : H). vec_capacity h) hs len t c.requires.threads c.loop-list.invariant.rooms in
    let lt : i < length hs = search rules in
    let k : i < t = omega arith in
    let f = turn hs c.args.pieces.now.items len t i c.list-item.result lt k c.loop-list.invariant.rooms c.loop-list.invariant.lists in
    record { room = omega (arith, (get_or hs i c.list-item.result).ok.0, ap length f.0, f.1, min-le_left each (vec_len c.loop-list.pieces), same) }

pub move_last-requires-in-loop-list : goal.move_last-requires-in-loop-list
move_last-requires-in-loop-list g c =
    let P : Type 0 = Piece g.row.T.Denot in let H : Type 0 = Vec P Global in let t = c.args.threads in let len = vec_len c.args.pieces.now in
    let ps : List P = c.args.pieces.now.items in let each = c.len-2.result / t in let i = c.loop-list.list-index in
    let hs : List H = c.loop-list.list-items in
    let same : each ≡ len / t = ap (λ z. z / t) c.len-2.ensures in
    let n : length hs ≡ t = count (λ (h : H). vec_capacity h) hs len t c.requires.threads c.loop-list.invariant.rooms in
    let lt : i < length hs = search rules in
    let k : i < t = omega arith in
    let h = turn hs ps len t i c.list-item.result lt k c.loop-list.invariant.rooms c.loop-list.invariant.lists in
    let run : List P = take each (reverse c.loop-list.pieces.items) in
    let got : length c.move_last.new.list.items ≡ length run = rw h.0 at (ap length c.move_last.ensures.list) in
    let short : length run ≤ each =
    omega (arith, length-take each (reverse c.loop-list.pieces.items), min-le_left each (length (reverse c.loop-list.pieces.items))) in
    let left : length c.loop-list.rest.items ≡ length ps - each * t - i =
    sym (length-reverse c.loop-list.rest.items) ∙ ap length c.loop-list.invariant.rest ∙ length-drop i (drop (each * t) ps)
    ∙ ap (λ z. z - i) (length-drop (each * t) ps) in
    let left' : vec_len c.loop-list.rest ≡ len - len / t * t - i =
    rw (← same) (c.loop-list.rest.ok.0 ∙ left ∙ ap (λ z. z - each * t - i) (sym c.args.pieces.now.ok.0)) in
    let f : len / t + min 1 (vec_len c.loop-list.rest) ≤ vec_capacity (get_or hs i c.list-item.result) = rw left' h.1 in
    record { room = omega (arith, c.move_last.new.list.ok.0, got, short, f, same, c.move_last.ensures.room) }

pub loop-list-preserved : goal.loop-list-preserved
loop-list-preserved g c =
    let P : Type 0 = Piece g.row.T.Denot in let H : Type 0 = Vec P Global in let t = c.args.threads in let len = vec_len c.args.pieces.now in
    let ps : List P = c.args.pieces.now.items in let each = c.len-2.result / t in
    let same : each ≡ length ps / t = ap (λ z. z / t) (c.len-2.ensures ∙ c.args.pieces.now.ok.0) in
    let i = c.loop-list.list-index in let hs : List H = c.loop-list.list-items in
    let n : length hs ≡ t = count (λ (h : H). vec_capacity h) hs len t c.requires.threads c.loop-list.invariant.rooms in
    let lt : i < length hs = search rules in
    let k : i < t = omega arith in
    let d : H = c.list-item.result in let new : H = c.move_last-in-loop-list.new.list in
    let none = (turn hs ps len t i d lt k c.loop-list.invariant.rooms c.loop-list.invariant.lists).0 in
    let own : take each (reverse c.loop-list.pieces.items) ≡ take each (drop (each * i) ps) =
    ap (take each) c.loop-list.invariant.own ∙ own_run ps each t i k in
    let rest : take 1 (reverse c.loop-list.rest.items) ≡ take 1 (drop (each * t + i) ps) =
    ap (take 1) (c.loop-list.invariant.rest ∙ drop-drop i (each * t) ps) in
    let items : new.items ≡ dealt ps t i = rw (← same) (c.move_last-in-loop-list.ensures.list ∙ rw (c.move_last.ensures.list, none, own, rest) refl) in
    let cap : vec_capacity new ≡ vec_capacity (get_or hs i d) = c.move_last-in-loop-list.ensures.room ∙ c.move_last.ensures.room in
    record {
      own = c.move_last.ensures.pieces ∙ ap (drop each) c.loop-list.invariant.own ∙ own_left (take (each * t) ps) each i;
      rest = c.move_last-in-loop-list.ensures.pieces ∙ ap (drop 1) c.loop-list.invariant.rest ∙ drop-drop 1 i (drop (each * t) ps);
      lists = lists_next (λ (h : H). h.items) hs (dealt ps t) t i new k c.loop-list.invariant.lists items;
      rooms = map-set (λ (h : H). vec_capacity h) hs i new
          ∙ ap (λ z. set (map (λ (h : H). vec_capacity h) hs) i z) (cap ∙ sym (get_or-map (λ (h : H). vec_capacity h) hs i d 0 lt))
          ∙ set-get_or (map (λ (h : H). vec_capacity h) hs) i 0 ∙ c.loop-list.invariant.rooms;
    }

pub returns-clause-dealt : goal.returns-clause-dealt
returns-clause-dealt g c =
    let P : Type 0 = Piece g.row.T.Denot in let H : Type 0 = Vec P Global in let t = c.args.threads in let len = vec_len c.args.pieces.now in
    let ps : List P = c.args.pieces.now.items in let i = c.loop-list.list-index in let hs : List H = c.loop-list.list-items in
    let n : length hs ≡ t = count (λ (h : H). vec_capacity h) hs len t c.requires.threads c.loop-list.invariant.rooms in
    let m : length c.in_ok-lists.lists.items ≡ t =
    count (λ (h : H). vec_capacity h) c.in_ok-lists.lists.items len t c.requires.threads (search (rules, c.in_ok-lists.ensures.rooms)) in
    let all : i ≡ t = omega arith in
    let same : length hs ≡ c.in_ok-lists.lists.len = n ∙ sym m ∙ sym c.in_ok-lists.lists.ok.0 in
    let z : t - i ≡ 0 = omega arith in
    let got : map (λ (h : H). h.items) hs ≡ map (dealt ps t) (counted 0 t) =
    rw (z, all) at c.loop-list.invariant.lists ∙ append-nil (map (dealt ps t) (counted 0 t)) in
    rw (take_at hs (drop (length hs) c.in_ok-lists.lists.items) c.in_ok-lists.lists.len same) got

pub returns-clause-taken : goal.returns-clause-taken
returns-clause-taken g c =
    let P : Type 0 = Piece g.row.T.Denot in let H : Type 0 = Vec P Global in let t = c.args.threads in let len = vec_len c.args.pieces.now in
    let each = c.len-2.result / t in let i = c.loop-list.list-index in let hs : List H = c.loop-list.list-items in
    let n : length hs ≡ t = count (λ (h : H). vec_capacity h) hs len t c.requires.threads c.loop-list.invariant.rooms in
    let all : i ≡ t = omega arith in
    let run : List P = take (each * t) c.args.pieces.now.items in
    let short : length run ≤ each * i =
    rw all (omega (arith, length-take (each * t) c.args.pieces.now.items, min-le_left (each * t) (length c.args.pieces.now.items))) in
    nil_from_length c.loop-list.pieces.items
    (sym (length-reverse c.loop-list.pieces.items) ∙ ap length (c.loop-list.invariant.own ∙ drop_all (each * i) run short))

pub returns-clause-numbers : goal.returns-clause-numbers
returns-clause-numbers g c =
    let P : Type 0 = Piece g.row.T.Denot in let number : P → ℕ = λ p. p.number in let t = c.args.threads in
    sym (map-map (map number) (λ (h : Vec P Global). h.items)
    (take c.in_ok-lists.lists.len (c.loop-list.list-items ++ drop (length c.loop-list.list-items) c.in_ok-lists.lists.items)))
    ∙ ap (map (map number)) (returns-clause-dealt g c)
    ∙ map-dealt_all number c.args.pieces.now.items t (counted 0 t)
    ∙ ap (λ z. map (dealt z t) (counted 0 t)) c.requires.numbers

pub returns-clause-all : goal.returns-clause-all
returns-clause-all g c = let t = c.args.threads in rw (returns-clause-dealt g c) (dealt_all c.args.pieces.now.items t c.requires.threads)
