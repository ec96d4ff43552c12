-- The strips were told what stands around them, and then updated.
use Rattle.std.proofs.Common.{◌≡◌, List, length, arith, subst}
use Rattle.std.specs.List.{AllZip}
use Rattle.std.proofs.lemmas.Result.{on_ok_weaker}
use Rattle.spindle_parts.specs.declared.lists.strips.Strip.{Strip}
use Rattle.spindle.proofs.PassLists.{told_all}
use Rattle.spindle.proofs.lock.slot_leader.SlotLeader.pass.Goals as goal

pub returns-clause-updated : goal.returns-clause-updated
returns-clause-updated g c =
    let now : List (Strip g.row.T.Denot g.row.N.Denot) = c.tell_neighbours.new.strips in
    let long : c.args.strips.now.len ≡ length now = omega (arith, c.tell_neighbours.auto.strips, c.as_mut_slice.ensures.len) in
    let given = told_all c.args.strips.now.len c.args.edge c.args.strips.now.items c.as_mut_slice.result.now now long c.tell_neighbours.ensures c.as_mut_slice.ensures.value in
    on_ok_weaker c.update_each.result (λ z. subst (λ l. AllZip g.J.Updates.updated l c.update_each.new.items.items) given z) c.update_each.ensures.updated
