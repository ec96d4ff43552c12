-- Each load of a range keeps the table's rule, and the longest so far is known.
use Rattle.std.proofs.Common.{rules, arith, ◌≡◌, ◌∙◌, ℕ, ◌+◌, List, [], ◌∷◌, ◌++◌, length, ap, sym, refl, subst}
use Rattle.spindle_rounds.specs.RoundSteps.{searching}
use Rattle.spindle_rounds.specs.RoundAnswers.{IsBest}
use Rattle.spindle_rounds.proofs.RoundMoves.{kept}
use Rattle.spindle_rounds.proofs.KeptLoads.{searches}
use Rattle.spindle_rounds.proofs.RoundSearch.{length_more, searched_more, best_last, best_stays}
use Rattle.spindle_rounds.proofs.round.Round.longest.Goals as goal
use Rattle.spindle_rounds.proofs.round.Round.longest.Goals.{then-length, else-length}

pub load-found-requires : goal.load-found-requires
load-found-requires g c = (search rules, omega arith, kept (searches g.D.SlotContents.discipline g.met.D.SlotContents.lawful _ _ _ _ _ (omega arith)))

pub loop-i-init : goal.loop-i-init
loop-i-init g c = (refl, refl, ([], refl, refl, ((λ some. absurd (omega arith)), (λ z j lt. absurd (omega arith)))))

pub loop-i-preserved : goal.loop-i-preserved
loop-i-preserved g c = let f = c.loop-i.invariant in let l : List ℕ = f.2.0 in let x : ℕ = c.load-found.result in let e = c.load-found.ensures in
    let v = c.args.seat.now.me.0 in let b = f.2.3 in let i_is : c.loop-i.i ≡ 0 + length l = (let n = f.2.1 in omega arith) in let old = c.length.ensures in
    let new = c.length-in-loop-i.ensures in let seen = e.2.1 c.loop-i.i refl ∙ ((λ j. searching (i_is j) x (f.2.2 j).0) ∙ sym (searched_more 0 l x v)) in (
      e.0 ∙ f.0,
      e.1 ∙ f.1,
      (
        l ++ x ∷ [],
        (let n = f.2.1 in length_more l x ∙ omega arith),
        (λ j. (seen j, (e.2.0 ∙ ap (λ m. m.1) f.2.2) j)),
        elim c.if-length.branch [
          | then-length w ↦ (let lt = w.if-length.true in subst (λ (z : ℕ × ℕ). IsBest (l ++ x ∷ []) z.0 z.1)
              (λ j. (sym (w.thread-is ∙ sym f.2.1) j, sym w.range-is j)) (best_last l x c.loop-i.thread c.loop-i.range b (omega arith)))
          | else-length w ↦ (let le = w.if-length.false in subst (λ (z : ℕ × ℕ). IsBest (l ++ x ∷ []) z.0 z.1) (λ j. (sym w.thread-is j, sym w.range-is j))
              (best_stays l x c.loop-i.thread c.loop-i.range b (omega arith)))
        ],
      ),
    )
