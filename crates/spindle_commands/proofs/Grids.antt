-- Lists cut in chunks, and copies of one number that grow.
use Rattle.std.proofs.Common.{◌≡◌, ℕ, zero, suc, ◌+◌, ◌<◌, List, [], ◌∷◌, ◌++◌, map, replicate, min, refl, ap, sym, ◌∙◌, arith}
use Rattle.std.proofs.lemmas.List.{map-append}
use Rattle.spindle_parts.specs.Pieces.{joined, total}
use Rattle.spindle_commands.specs.Grid.{one_more}

-- one more length
pub total_snoc : (xs : List ℕ) (x : ℕ) → total (xs ++ x ∷ []) ≡ total xs + x
total_snoc [] x = omega arith
total_snoc (y ∷ xs) x = let e = total_snoc xs x in omega (arith, e)

-- a function of each element, chunk by chunk, where something stands beside each chunk
pub joined_firsts : {A B C : Type 0} (f : A → C) (items : List (List A × B))
    → joined (map (λ item. map f item.0) items) ≡ map f (joined (map (λ item. item.0) items))
joined_firsts f [] = refl
joined_firsts {A} {B} f (x ∷ xs) =
    let first : (List A × B) → List A = λ item. item.0 in
    ap (λ t. map f x.0 ++ t) (joined_firsts f xs) ∙ sym (map-append f x.0 (joined (map first xs)))

-- copies of a number, and one more
pub more_copies : (n x : ℕ) → x < 4294967295 → map one_more (replicate n x) ≡ replicate n (x + 1)
more_copies zero x lt = refl
more_copies (suc n) x lt =
    let first : min (x + 1) 4294967295 ≡ x + 1 = omega (arith, lt) in
    let rest = more_copies n x lt in
    λ i. first i ∷ rest i
