-- A run of a run is a run of the list.
use Rattle.std.proofs.Common.{◌≡◌, ◌+◌, ◌-◌, arith}
use Rattle.spindle_parts.proofs.ListRuns.{slice_range-slice_range, length-range}
use Rattle.spindle_parts.proofs.lists.shared.ListRun.run.Goals as goal

pub returns : goal.returns
returns g c =
    let s = c.self.inside in let n = length-range s.list c.args.self.now s.from s.to c.self.view_is c.self.invariant.1 in
    let to : s.to - (c.len.result - c.args.to) ≡ s.from + c.args.to = omega (arith, n) in
    let e = slice_range-slice_range s.list s.from s.to c.args.from c.args.to c.requires.in_order (omega (arith, n)) in
    rw (← c.self.view_is, e, ← to) c.run.ensures
