-- A fresh machine is tidy, and no call leads to it.
use Rattle.spindle_parts.specs.Registers.{shown}
use Rattle.spindle_parts.proofs.Serving.{starts}
use Rattle.spindle_parts.proofs.steps.Machine.new.Goals as goal

pub invariant_of-result : goal.invariant_of-result
invariant_of-result c = record {
  reached = starts c.args.threads (shown c.in_ok-registers.registers) c.requires.some c.requires.few c.in_ok-registers.ensures.fresh;
  tidy = c.in_ok-registers.ensures.tidy;
}

pub returns-clause-reached : goal.returns-clause-reached
returns-clause-reached c = starts c.args.threads (shown c.in_ok-registers.registers) c.requires.some c.requires.few c.in_ok-registers.ensures.fresh
