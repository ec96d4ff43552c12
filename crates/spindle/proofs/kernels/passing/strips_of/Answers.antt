-- One more strip.
use Rattle.std.proofs.Common.{rules, ◌+◌, [], ◌∷◌, refl, map, ap, sym, ◌∙◌, false}
use Rattle.std.proofs.lemmas.List.{length-append}
use Rattle.spindle_parts.specs.declared.cut.Piece.{Piece}
use Rattle.spindle_parts.proofs.ListLaws.{map_snoc}
use Rattle.spindle.specs.Passes.{IsNotedBy}
use Rattle.spindle.proofs.KernelLists.{one_more}
use Rattle.spindle.proofs.kernels.passing.strips_of.Goals as goal

pub loop-piece-preserved : goal.loop-piece-preserved
loop-piece-preserved g c = let l = c.loop-piece in let i = l.invariant in let piece = c.in-Some.piece in
    let own = λ (p : Piece g.row.V.Denot). p.items.items in let e = c.args.edge in
    let more = one_more (IsNotedBy c.args.kernel.now) l.strips.items c.push_reserved.new.self.items
    (record { items = piece.items; before = e; behind = e; note = record { kernel = c.in_ok-kernel.kernel; settled = false } }) (λ strip. strip.items.items)
    (map own l.yielded) (own piece) (search rules) i.0 refl i.1 c.in_ok-kernel.ensures in (
      more.0 ∙ sym (map_snoc own l.yielded piece),
      more.1,
      search rules,
      c.push_reserved.ensures.len ∙ ap (λ n. n + 1) i.3 ∙ sym (length-append l.yielded (piece ∷ [])),
    )
