-- One empty slot more.
use Rattle.std.proofs.Common.{rules, arith, ◌≡◌, ℕ, zero, suc, ◌<◌, List, [], ◌∷◌, ◌++◌, length, sym, refl, subst}
use mathlib.Core.Option.{some}
use lib.ListN.{get_elem?}
use Rattle.spindle_rounds.specs.declared.round_table.pieces.SlotState.TheVariants.{Empty}
use Rattle.spindle_rounds.proofs.round_table.pieces.PieceSlotsSlotContents.vacant.Goals as goal

one_more : {A : Type 0} (l : List A) (a : A) → ((k : ℕ) → k < length l → get_elem? l k ≡ some a) → (k : ℕ) → k < length (l ++ a ∷ []) → get_elem?
    (l ++ a ∷ []) k ≡ some a
one_more [] a all zero lt = refl
one_more [] a all (suc k) lt = absurd (omega arith)
one_more (x ∷ xs) a all zero lt = all 0 (omega arith)
one_more (x ∷ xs) a all (suc k) lt = one_more xs a (λ j b. all (suc j) (omega arith)) k (omega arith)

pub loop-preserved : goal.loop-preserved
loop-preserved g c = let e = c.push_reserved.ensures in let i = c.loop.invariant in
    (search rules, search rules, λ k lt. subst (λ l. k < length l → get_elem? l k ≡ some Empty) (sym e.items) (one_more _ Empty i.2 k) lt)
