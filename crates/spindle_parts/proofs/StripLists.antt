-- Strips one behind the other.
use Rattle.std.proofs.Common.{◌≡◌, ◌-◌, List, [], ◌∷◌, ◌++◌, length, map, get_or, refl, ap, ◌∙◌, arith, ℕ, suc}
use Rattle.std.proofs.lemmas.List.{get_or_default}
use Rattle.spindle_parts.specs.Pieces.{joined}
use Rattle.spindle_parts.proofs.ListLaws.{joined_snoc, map_snoc}
use Rattle.spindle_parts.specs.Strips.{items_of, last_of}
use Rattle.spindle_parts.specs.declared.lists.strips.Strip.{Strip}

module _ {T : Type 0} where
  -- one strip more
  pub items_snoc : {N : Type 0} (strips : List (Strip T N)) (strip : Strip T N) → items_of (strips ++ strip ∷ []) ≡ items_of strips ++ strip.items.items
  items_snoc {N = N} strips strip =
      let items : Strip T N → List T = λ strip. strip.items.items in
      ap joined (map_snoc items strips strip) ∙ joined_snoc (map items strips) (items strip)

  -- the last item, as a read
  pub last_is : (before : T) (items : List T) → get_or items (length items - 1) before ≡ last_of before items
  last_is b (x ∷ y ∷ items) =
      let last : ℕ = length (y ∷ items) - 1 in
      let next : length (x ∷ y ∷ items) - 1 ≡ suc last = omega arith in
      ap (λ k. get_or (x ∷ y ∷ items) k b) next
      ∙ get_or_default (y ∷ items) last b x (omega arith)
      ∙ last_is x (y ∷ items)
  last_is b items = refl
