-- An empty list has settled.
use Rattle.std.proofs.Common.{◌≡◌, [], subst, sym}
use Rattle.spindle.specs.Passes.{HavePassed}
use Rattle.spindle.proofs.PassLists.{empty_list, none_passed}
use Rattle.spindle.proofs.kernels.passes.passes_until.Goals as goal

pub returns-then-is_empty-clause-answer : goal.returns-then-is_empty-clause-answer
returns-then-is_empty-clause-answer g c =
    let f = g.K.Stencil.becomes c.args.kernel.now in let s = g.K.Stencil.settles c.args.kernel.now in
    let e = c.no_values.ensures in
    let empty : c.args.list.items ≡ [] = empty_list c.args.list.len c.args.list.items c.if-is_empty.ensures c.args.list.ok.0 in
    subst (λ v. HavePassed f s c.args.edge c.args.most c.args.list.items c.no_values.result.count c.no_values.result.settled v.items) (sym e.values)
    (none_passed f s c.args.edge c.args.most c.no_values.result.count c.no_values.result.settled c.args.list.items empty e.none e.one)
