-- One more piece has failed or not, and at the end no piece is to come.
use Rattle.std.proofs.Common.{◌≡◌, ◌≤◌, ◌<◌, ◌+◌, ◌++◌, ◌∷◌, [], drop, Any, length, slice_index_or, inl, inr, append-nil, append_assoc, refl, ap, sym, ◌∙◌, subst, arith, rules}
use Rattle.std.proofs.lemmas.Bool.{false≢true}
use Rattle.std.proofs.lemmas.List.{drop_more, drop_all}
use Rattle.spindle_locks.specs.Reports.{AreFailed, HasFailed}
use Rattle.spindle_locks.proofs.pieces.report.Report.failed.Goals as goal
use Rattle.spindle_locks.proofs.pieces.report.Report.failed.Goals.{then-has_failed+in_ok-push, else-has_failed}

pub loop-piece-preserved : goal.loop-piece-preserved
unfolding AreFailed
loop-piece-preserved g c = λ others failed. let Fails = g.J.Job.fails in let ran = c.args.self.now.ran.items in let before = c.loop-piece.numbers.items in
    let piece = c.piece-item.result in let at = c.loop-piece.piece-index in
    let inside : at < length ran = omega arith in let there : slice_index_or ran at piece ≡ piece = cc in
    let next : drop at ran ≡ piece ∷ drop (at + 1) ran = drop_more ran at piece inside ∙ ap (λ p. p ∷ drop (at + 1) ran) there in
    elim c.if-has_failed.branch [
      | then-has_failed+in_ok-push w ↦ let told = subst (Any Fails) c.as_slice.ensures.value (c.has_failed.ensures.0 w.if-has_failed.true) in
          let pushed : c.if-has_failed.numbers.items ≡ before ++ (piece.0 ∷ []) = search rules in
          subst (λ ns. AreFailed Fails ran (ns ++ others)) (sym pushed) (subst (AreFailed Fails ran) (sym (append_assoc before (piece.0 ∷ []) others))
          (c.loop-piece.invariant (piece.0 ∷ others) (subst (λ ps. AreFailed Fails ps (piece.0 ∷ others)) (sym next) (inl (told, others, refl, failed)))))
      | else-has_failed w ↦ let none : HasFailed Fails piece → ⊥ = λ h. false≢true (sym w.if-has_failed.false ∙
          c.has_failed.ensures.1 (subst (Any Fails) (sym c.as_slice.ensures.value) h)) in
          let same = ap (λ v. v.items) w.numbers-is in
          subst (λ ns. AreFailed Fails ran (ns ++ others)) (sym same)
          (c.loop-piece.invariant others (subst (λ ps. AreFailed Fails ps others) (sym next) (inr (none, failed))))
    ]

pub returns-clause-numbers : goal.returns-clause-numbers
unfolding AreFailed
returns-clause-numbers g c = let Fails = g.J.Job.fails in let ran = c.args.self.now.ran.items in let at = c.loop-piece.piece-index in
    let past : length ran ≤ at = omega arith in
    subst (AreFailed Fails ran) (append-nil c.loop-piece.numbers.items)
    (c.loop-piece.invariant [] (subst (λ ps. AreFailed Fails ps []) (sym (drop_all at ran past)) refl))
