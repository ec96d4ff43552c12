-- One more piece.
use Rattle.std.proofs.Common.{◌≡◌, rules, arith, [], ◌∷◌, ◌++◌, List, Vec, Global, map, ap, sym, ◌∙◌}
use Rattle.std.proofs.lemmas.List.{length-append}
use Rattle.spindle.specs.declared.kernels.maps.Run.{Run}
use Rattle.spindle.specs.declared.kernels.tasks.Task.{Task}
use Rattle.spindle_parts.proofs.ListLaws.{map_snoc}
use Rattle.spindle.proofs.kernels.maps.take_outputs.Goals as goal

pub loop-task-preserved : goal.loop-task-preserved
loop-task-preserved g c = let l = c.loop-task in let i = l.invariant in
    let own : Task g.row.K.Denot (Run g.row.S.Denot g.row.U.Denot g.row.S-Item.Denot g.S.Source) → List g.row.U.Denot = λ task. task.part.outputs.items in
    let items : Vec g.row.U.Denot Global → List g.row.U.Denot = λ piece. piece.items in
    let task = c.in-Some.task in
    let more : c.push_reserved.new.self.items ≡ l.pieces.items ++ task.part.outputs ∷ [] = search rules in (
      ap (map items) more ∙ map_snoc items l.pieces.items task.part.outputs ∙ ap (λ t. t ++ own task ∷ []) i.0 ∙ sym (map_snoc own l.yielded task),
      search rules,
      omega (arith, c.push_reserved.ensures.len, i.2, length-append l.yielded (task ∷ [])),
    )
