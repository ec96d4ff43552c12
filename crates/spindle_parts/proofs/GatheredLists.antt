-- What follows from answers that hold chunk by chunk, once they are one list.
use Rattle.std.proofs.Common.{◌≡◌, List, [], ◌∷◌, ◌++◌, IfOk, Result, Ok, Err, Vec, Global, map, refl, ap, sym, ◌∙◌, subst}
use Rattle.std.proofs.lemmas.List.{map-append}
use Rattle.std.specs.List.{AllZip}
use Rattle.std.specs.Iterator.{Yields}
use Rattle.std.specs.Vec.Iter.{into_iter_items, into_iter_steps}
use Rattle.std.specs.declared.vec.IntoIter.{IntoIter}
use Rattle.spindle_parts.specs.Pieces.{joined}
use Rattle.spindle_parts.proofs.ListLaws.{joined_snoc, map_snoc}
use Rattle.spindle_parts.specs.Gathered.{IsGathered}

-- the items of an iterator are those that it has yielded, and those to come
pub yielded_items : {X Z : Type 0} (xs : List X) (s t : IntoIter X Z) → Yields (into_iter_steps {X = X} {Z = Z}) s xs t
    → into_iter_items s ≡ xs ++ into_iter_items t
yielded_items [] s t e = ap into_iter_items e
yielded_items (x ∷ xs) s t y = y.1.0 ∙ ap (λ l. x ∷ l) (yielded_items xs y.0 t y.2)

-- lists that are a function's values, one a chunk, joined
joined_values : {T C : Type 0} (E : Type 0) (f : C → List T) (chunks : List C) (lists : List (Vec T Global)) → AllZip {B = Result (Vec T Global) E}
    (λ chunk answer. IfOk answer (λ (list : Vec T Global). list.items ≡ f chunk)) chunks (map Ok lists)
    → joined (map (λ list. list.items) lists) ≡ joined (map f chunks)
joined_values E f [] [] z = refl
joined_values E f (c ∷ cs) (l ∷ ls) z = ap (λ t. t ++ joined (map (λ list. list.items) ls)) z.0 ∙ ap (λ t. f c ++ t) (joined_values E f cs ls z.1)
joined_values E f cs ls z = absurd z

module _ {T E : Type 0} where
  -- no answers yet
  pub gathered_none : (all : Vec T Global) → all.items ≡ [] → IsGathered {T = T} {E = E} [] (Ok all)
  gathered_none all none = ([], refl, none)

  -- one answer more
  pub gathered_snoc : (answers : List (Result (Vec T Global) E)) (all new list : Vec T Global) → IsGathered answers (Ok all)
      → new.items ≡ all.items ++ list.items → IsGathered (answers ++ Ok list ∷ []) (Ok new)
  gathered_snoc answers all new list is more =
      let items : Vec T Global → List T = λ l. l.items in
      let all' = more ∙ ap (λ t. t ++ list.items) is.2 ∙ sym (joined_snoc (map items is.0) list.items) ∙ ap joined (sym (map_snoc items is.0 list)) in
      (is.0 ++ list ∷ [], ap (λ t. t ++ Ok list ∷ []) is.1 ∙ sym (map_snoc Ok is.0 list), all')

  -- the first failure
  pub gathered_failed : (answers later : List (Result (Vec T Global) E)) (all : Vec T Global) (failure : E) → IsGathered answers (Ok all)
      → IsGathered (answers ++ Err failure ∷ later) (Err failure)
  gathered_failed answers later all failure is = (is.0, later, ap (λ t. t ++ Err failure ∷ later) is.1)

  -- where each answer is a function's value at its chunk, the list is these values joined
  pub gathered_values : {C : Type 0} (f : C → List T) (chunks : List C) (answers : List (Result (Vec T Global) E)) (all : Vec T Global)
      → AllZip (λ chunk answer. IfOk answer (λ (list : Vec T Global). list.items ≡ f chunk)) chunks answers
      → IsGathered answers (Ok all) → all.items ≡ joined (map f chunks)
  gathered_values f chunks answers all z is =
      is.2 ∙ joined_values E f chunks is.0 (subst (AllZip (λ chunk answer. IfOk answer (λ (list : Vec T Global). list.items ≡ f chunk)) chunks) is.1 z)

-- a function of each element, list by list
pub joined_maps : {A B : Type 0} (f : A → B) (lists : List (List A)) → joined (map (map f) lists) ≡ map f (joined lists)
joined_maps f [] = refl
joined_maps f (x ∷ xs) = ap (λ t. map f x ++ t) (joined_maps f xs) ∙ sym (map-append f x (joined xs))

-- where each answer has a function's values at its chunk's elements, the list has those of the whole list
pub gathered_map : {A T : Type 0} (E : Type 0) (f : A → T) (chunks : List (List A)) (answers : List (Result (Vec T Global) E)) (all : Vec T Global)
    → AllZip (λ chunk answer. IfOk answer (λ (list : Vec T Global). list.items ≡ map f chunk)) chunks answers
    → IsGathered answers (Ok all) → all.items ≡ map f (joined chunks)
gathered_map E f chunks answers all z is = gathered_values {E = E} (map f) chunks answers all z is ∙ joined_maps f chunks
