-- There are counters, and not too many.
use Rattle.std.proofs.Common.{arith, rules}
use Rattle.std.proofs.lemmas.Grind.{common_steps}
use Rattle.spindle_parts.specs.Registers.{shown}
use Rattle.spindle_parts.proofs.Reached.{bounds}
use Rattle.spindle_parts.proofs.steps.registers.Registers.publish.Goals as goal

pub overflow_cast-threads : goal.overflow_cast-threads
overflow_cast-threads c = let few = (bounds (shown c.args.self.now) c.requires.reached).few in
    let n = c.len-threads.ensures in let size = c.args.self.now.counters.ok.0 in omega arith

pub nonzero_div-count : goal.nonzero_div-count
nonzero_div-count c = let some = (bounds (shown c.args.self.now) c.requires.reached).some in
    let n = c.len-threads.ensures in let size = c.args.self.now.counters.ok.0 in omega arith

pub nonzero_rem-self : goal.nonzero_rem-self
nonzero_rem-self c = let some = (bounds (shown c.args.self.now) c.requires.reached).some in
    let n = c.len-threads.ensures in let size = c.args.self.now.counters.ok.0 in omega arith

pub returns-clause-served : goal.returns-clause-served
returns-clause-served c = search rules

pub returns-clause-tidy : goal.returns-clause-tidy
returns-clause-tidy c = grind (arith, common_steps)
