-- Who leaves was counted among the members, and not among those inside.
use Rattle.std.proofs.Common.{sym, ◌∙◌, arith, rules}
use Rattle.spindle_parts.specs.Registers.{shown}
use Rattle.spindle_parts.proofs.Reached.{bounds}
use Rattle.spindle_parts.proofs.Marks.{known_waiting, sense_kept}
use Rattle.spindle_parts.proofs.steps.registers.Registers.leave.Goals as goal

pub returns-then-must_stay-clause-served : goal.returns-then-must_stay-clause-served
returns-then-must_stay-clause-served c = search rules

pub overflow_sub-self : goal.overflow_sub-self
overflow_sub-self c = let b =
    (bounds (shown c.args.self.now) c.requires.reached).waiting_counts c.args.party (sym c.is_waiting.ensures ∙ c.if-not-is_waiting.false) in omega arith

pub returns-clause-served : goal.returns-clause-served
returns-clause-served c = search rules

pub returns-clause-tidy : goal.returns-clause-tidy
returns-clause-tidy c = let r = c.args.self.now in
    let w = sym c.is_waiting.ensures ∙ c.if-not-is_waiting.false in let b = (bounds (shown r) c.requires.reached).waiting_counts c.args.party w in record {
      marks = sense_kept r.entries _ _ _ c.args.party c.requires.tidy.marks (known_waiting r c.args.party w) _ c.set_sense.ensures.written;
      left = c.requires.tidy.left;
      inside = omega arith;
      members = let d = c.requires.tidy.members in omega arith;
    }
