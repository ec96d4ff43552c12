-- The parts of the tasks are the branches.
use Rattle.std.proofs.Common.{map, subst, sym}
use Rattle.std.specs.List.{AllZip}
use Rattle.spindle.specs.Divisions.{LeadsTo}
use Rattle.spindle.proofs.Divisions.{parts_changed}
use Rattle.spindle.proofs.kernels.dividing.advance_all.Goals as goal

pub returns-clause-advanced : goal.returns-clause-advanced
returns-clause-advanced g c =
    let kernel = c.args.kernel.now in
    let tasks = c.in_ok-tasks.tasks.items in
    let new = c.update_all.new.items.items in
    let leads = LeadsTo (g.K.Division.solves kernel) (g.K.Division.splits kernel) in
    let changed = parts_changed (λ k. LeadsTo (g.K.Division.solves k) (g.K.Division.splits k)) kernel tasks new c.in_ok-tasks.ensures.kernel c.in_ok-update_all.ensures.updated in
    subst (AllZip leads c.args.branches.items) (sym c.in_ok-parts_in.ensures)
    (subst (λ l. AllZip leads l (map (λ task. task.part) new)) c.in_ok-tasks.ensures.parts changed)
