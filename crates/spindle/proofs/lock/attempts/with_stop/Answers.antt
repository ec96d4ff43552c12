-- One more piece.
use Rattle.std.proofs.Common.{rules, ◌+◌, [], ◌∷◌, refl, map, ap, sym, ◌∙◌}
use Rattle.std.proofs.lemmas.List.{length-append}
use Rattle.spindle_parts.specs.declared.cut.Piece.{Piece}
use Rattle.spindle_parts.proofs.ListLaws.{map_snoc}
use Rattle.spindle.specs.Attempts.{IsSkipped}
use Rattle.spindle.proofs.KernelLists.{one_more}
use Rattle.spindle.proofs.lock.attempts.with_stop.Goals as goal

pub loop-piece-preserved : goal.loop-piece-preserved
loop-piece-preserved g c = let l = c.loop-piece in let i = l.invariant in let piece = c.in-Some.piece in
    let own = λ (p : Piece g.row.A.Denot). p.items in
    let more = one_more IsSkipped l.attempts.items c.push_reserved.new.self.items _ (λ attempt. attempt.items) (map own l.yielded) (own piece)
    c.push_reserved.ensures.items i.0 refl i.1 (refl, search rules) in (
      more.0 ∙ sym (map_snoc own l.yielded piece),
      more.1,
      search rules,
      c.push_reserved.ensures.len ∙ ap (λ n. n + 1) i.3 ∙ sym (length-append l.yielded (piece ∷ [])),
    )
