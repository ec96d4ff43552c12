-- The sums of two lists.
use Rattle.std.proofs.Common.{◌≡◌, ℤ, pos, ◌≤ℤ◌, List, [], ◌∷◌, ◌++◌, subst, sym, arith}
use Rattle.std.proofs.lemmas.Int.{ints, clamps}
use Rattle.spindle_examples.specs.Runs.{sums_of, AreSums, AreJoined}

-- an empty run has no sum, all values are a run, and the sums of two lists make those of both, one behind the other
sums_append : (xs ys : List ℤ) → (pos 0 ≤ℤ (sums_of ys).1) × ((sums_of ys).0 ≤ℤ (sums_of ys).2) × ((sums_of ys).1 ≤ℤ (sums_of ys).3)
    × AreJoined (sums_of xs) (sums_of ys) (sums_of (xs ++ ys))
sums_append [] [] = omega (arith, ints, clamps)
sums_append [] (y ∷ ys) = let h = sums_append [] ys in omega (arith, ints, clamps)
sums_append (x ∷ xs) ys = let h = sums_append xs ys in omega (arith, ints, clamps)

-- what is made of the sums of two lists are those of both, one behind the other
pub sums_joined : (all xs ys : List ℤ) (a b s : ℤ × ℤ × ℤ × ℤ) → all ≡ xs ++ ys → AreSums xs a → AreSums ys b → AreJoined a b s → AreSums all s
sums_joined all xs ys a b s e f g j = subst (λ l. AreSums l s) (sym e) (let h = sums_append xs ys in omega (arith, ints, clamps))
