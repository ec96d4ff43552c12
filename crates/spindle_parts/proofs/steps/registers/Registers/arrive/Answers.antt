-- Who arrives was counted among those inside.
use Rattle.std.proofs.Common.{sym, ◌∙◌, subst, arith, rules}
use Rattle.spindle_parts.specs.Registers.{shown, IsTidy}
use Rattle.spindle_parts.proofs.Reached.{bounds}
use Rattle.spindle_parts.proofs.Marks.{known_inside, sense_kept}
use Rattle.spindle_parts.proofs.steps.registers.Registers.arrive.Goals as goal

pub overflow_sub-self : goal.overflow_sub-self
overflow_sub-self c =
    let b₀ = ((bounds (shown c.args.self.now) c.requires.reached).in_counts c.args.party (sym c.is_inside.ensures ∙ c.if-not-is_inside.false)).0 in omega arith

pub returns-clause-served : goal.returns-clause-served
returns-clause-served c = search rules

pub returns-clause-tidy : goal.returns-clause-tidy
returns-clause-tidy c = let r = c.args.self.now in let t = c.requires.tidy in
    let le = t.inside in let w = sym c.is_inside.ensures ∙ c.if-not-is_inside.false in subst IsTidy (sym c.close.ensures) record {
      marks = sense_kept r.entries _ _ _ c.args.party t.marks (known_inside r c.args.party w) _ c.set_sense.ensures.written;
      left = t.left;
      inside = omega arith;
      members = t.members;
    }
