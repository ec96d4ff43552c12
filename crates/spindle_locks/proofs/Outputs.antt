-- Outputs that answer their inputs, an item or a piece at a time.
use Rattle.std.proofs.Common.{◌≡◌, ℕ, ◌+◌, ◌<◌, List, [], ◌∷◌, ◌++◌, length, take, drop, get_or, map, ap, sym, ◌∙◌, add-one, suc, append_assoc}
use Rattle.std.proofs.lemmas.List.{take_more}
use Rattle.std.proofs.Math.Seq.{drop-cons}
use Rattle.std.specs.List.{AllZip}
use Rattle.spindle_parts.specs.Pieces.{joined}
use Rattle.spindle_parts.proofs.ListLaws.{all_zip_append, joined_snoc, map_snoc}
use Rattle.spindle_parts.specs.declared.cut.Piece.{Piece}
use Rattle.spindle_locks.specs.Rounds.{AddsAnswers, items_of}

-- one item more, where the items are walked by an index
pub AddsAnswers-next : {A B : Type 0} (R : A → B → Type 0) (xs : List A) (i : ℕ) (x : A) (y : B) (old new : List B) → i < length xs → x ≡ get_or xs i x
    → AddsAnswers R (take i xs) old new → R x y → AddsAnswers R (take (i + 1) xs) old (new ++ y ∷ [])
AddsAnswers-next R xs i x y old new h e so_far r =
    let answered : AllZip R (take i xs ++ x ∷ []) (so_far.0 ++ y ∷ []) = all_zip_append R (take i xs) so_far.0 (x ∷ []) (y ∷ []) so_far.1 (r, tt) in (
      so_far.0 ++ y ∷ [],
      rw (take_more xs i x h) (rw (← e) answered),
      ap (λ t. t ++ y ∷ []) so_far.2 ∙ append_assoc old so_far.0 (y ∷ []),
    )

-- answers to more items, after answers to some
pub AllZip-AddsAnswers : {A B : Type 0} (R : A → B → Type 0) (xs more : List A) (old new : List B) → AllZip R xs old → AddsAnswers R more old new → AllZip R
    (xs ++ more) new
AllZip-AddsAnswers R xs more old new z adds =
    rw adds.2 (all_zip_append R xs old more adds.0 z adds.1)

-- the items of the pieces from a place on
pub items_of-drop : {A : Type 0} (ps : List (Piece A)) (i : ℕ) (p : Piece A) → i < length ps → p ≡ get_or ps i p → items_of
    (drop i ps) ≡ p.items.items ++ items_of (drop (i + 1) ps)
items_of-drop ps i p h e =
    ap items_of (drop-cons ps i p h) ∙ rw (add-one i) (ap (λ t. t.items.items ++ items_of (drop (suc i) ps)) (sym e))

-- the items of the pieces before the next place
pub items_of-take : {A : Type 0} (ps : List (Piece A)) (i : ℕ) (p : Piece A) → i < length ps → p ≡ get_or ps i p → items_of (take (i + 1) ps) ≡ items_of
    (take i ps) ++ p.items.items
items_of-take {A} ps i p h e =
    let items : Piece A → List A = λ piece. piece.items.items in
    ap items_of (take_more ps i p h)
    ∙ ap joined (map_snoc items (take i ps) (get_or ps i p))
    ∙ joined_snoc (map items (take i ps)) (items (get_or ps i p))
    ∙ ap (λ t. items_of (take i ps) ++ items t) (sym e)
