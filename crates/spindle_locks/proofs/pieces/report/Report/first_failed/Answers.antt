-- The piece at hand is the first that has failed.
use Rattle.std.proofs.Common.{◌≡◌, ◌≤◌, ◌<◌, ◌++◌, ◌∷◌, suc, take, drop, Any, length, slice_index_or, refl, sym, ◌∙◌, subst, arith}
use Rattle.std.proofs.Math.Seq.{split_at}
use Rattle.std.proofs.lemmas.Bool.{false≢true}
use Rattle.std.proofs.lemmas.List.{take_all}
use Rattle.std.proofs.lemmas.List.Elements.{All-more}
use Rattle.spindle_locks.specs.Reports.{HasFailed, NoneFailed}
use Rattle.spindle_locks.proofs.pieces.report.Report.first_failed.Goals as goal

pub returns-then-has_failed-clause-first : goal.returns-then-has_failed-clause-first
returns-then-has_failed-clause-first g c = let ran = c.args.self.now.ran.items in let piece = c.piece-item.result in let at = c.loop-piece.piece-index in
    let inside : at < length ran = omega arith in let there : slice_index_or ran at piece ≡ piece = cc in (
      take at ran,
      drop (suc at) ran,
      piece,
      subst (λ p. ran ≡ take at ran ++ p ∷ drop (suc at) ran) there (split_at ran at piece inside),
      refl,
      subst (Any g.J.Job.fails) c.as_slice.ensures.value (c.has_failed.ensures.0 c.if-has_failed.true),
      c.loop-piece.invariant,
    )

pub returns-then-has_failed-clause-none : goal.returns-then-has_failed-clause-none
returns-then-has_failed-clause-none g c = let ran = c.args.self.now.ran.items in let piece = c.piece-item.result in let at = c.loop-piece.piece-index in
    let inside : at < length ran = omega arith in let there : slice_index_or ran at piece ≡ piece = cc in
    let failed = subst (Any g.J.Job.fails) c.as_slice.ensures.value (c.has_failed.ensures.0 c.if-has_failed.true) in
    ((λ e. absurd (false≢true (sym e))), (λ none. absurd (none at piece inside (subst (HasFailed g.J.Job.fails) (sym there) failed))))

pub loop-piece-preserved : goal.loop-piece-preserved
loop-piece-preserved g c = let ran = c.args.self.now.ran.items in let piece = c.piece-item.result in let at = c.loop-piece.piece-index in
    let inside : at < length ran = omega arith in let there : slice_index_or ran at piece ≡ piece = cc in
    All-more (λ p. HasFailed g.J.Job.fails p → ⊥) ran at piece inside c.loop-piece.invariant (λ h. let told =
    c.has_failed.ensures.1 (subst (Any g.J.Job.fails) (sym c.as_slice.ensures.value) (subst (HasFailed g.J.Job.fails) there h)) in
    false≢true (sym c.if-has_failed.false ∙ told))

pub returns-clause-none : goal.returns-clause-none
returns-clause-none g c = let ran = c.args.self.now.ran.items in let at = c.loop-piece.piece-index in let past : length ran ≤ at = omega arith in
    ((λ e. subst (NoneFailed g.J.Job.fails) (take_all at ran past) c.loop-piece.invariant), (λ none. refl))
