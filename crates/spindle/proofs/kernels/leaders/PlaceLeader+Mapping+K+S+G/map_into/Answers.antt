-- The pieces are what was computed of each.
use Rattle.std.proofs.Common.{◌≡◌, rules, map, subst, sym}
use Rattle.std.specs.List.{AllZip}
use Rattle.spindle_parts.specs.Pieces.{joined}
use Rattle.spindle.proofs.kernels.leaders.PlaceLeader+Mapping+K+S+G.map_into.Goals as goal

pub returns-clause-answer : goal.returns-clause-answer
returns-clause-answer g c =
    let same : map (λ piece. piece.items) c.take_outputs.new.pieces.items ≡ map (λ task. task.part.outputs.items) c.in_ok-tasks.tasks.items = search rules in
    subst (λ t. AllZip (g.K.Kernel.computes c.args.kernel.now) (g.S.Source.items c.args.source.now) (joined t)) (sym same) c.in_ok-tasks.ensures.answer
