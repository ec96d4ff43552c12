-- One more finished is at most the jobs published.
use Rattle.std.proofs.Common.{sym, ◌∙◌, arith}
use Rattle.spindle_parts.specs.Registers.{shown}
use Rattle.spindle_parts.proofs.Reached.{bounds}
use Rattle.spindle_parts.proofs.Tests.{some_by}
use Rattle.spindle_parts.proofs.steps.registers.Registers.finish.Goals as goal

pub overflow_add-self : goal.overflow_add-self
overflow_add-self c = let x = some_by c.running.result (let e = c.is_none.ensures in let f = c.if-is_none.false in cc) in
    let b = (bounds (shown c.args.self.now) c.requires.reached).finishes c.args.party x.0 (sym c.running.ensures ∙ x.1) in omega arith
