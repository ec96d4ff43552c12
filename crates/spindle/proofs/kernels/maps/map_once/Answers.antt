-- The outputs are those of the pieces.
use Rattle.std.proofs.Common.{◌≡◌, rules, map, subst, sym}
use Rattle.std.specs.List.{AllZip}
use Rattle.spindle_parts.specs.Pieces.{joined}
use Rattle.spindle.proofs.kernels.maps.map_once.Goals as goal

pub returns-clause-answer : goal.returns-clause-answer
returns-clause-answer g c =
    let outputs : c.append_outputs.new.all.items ≡ joined (map (λ task. task.part.outputs.items) c.in_ok-tasks.tasks.items) = search rules in
    subst (λ t. AllZip (g.K.Kernel.computes c.args.kernel.now) (g.S.Source.items c.args.source.now) t) (sym outputs) c.in_ok-tasks.ensures.answer
