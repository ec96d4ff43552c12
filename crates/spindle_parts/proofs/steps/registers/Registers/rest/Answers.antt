-- The remainder is at most the jobs published.
use Rattle.spindle_parts.specs.Registers.{shown}
use Rattle.spindle_parts.proofs.Reached.{bounds}
use Rattle.spindle_parts.proofs.steps.registers.Registers.rest.Goals as goal

pub overflow_sub-number : goal.overflow_sub-number
overflow_sub-number c = (bounds (shown c.args.self.now) c.requires.reached).rest_fits c.in_ok-count.count c.in_ok-count.ensures.published
