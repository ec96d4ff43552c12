-- At an end nobody is in, so the flip of the sense wakes every member.
use Rattle.std.proofs.Common.{ℕ, rules, sym, ◌∙◌, subst, arith}
use Rattle.spindle_parts.specs.Registers.{shown, IsTidy}
use Rattle.spindle_parts.proofs.Tests.{party_by}
use Rattle.spindle_parts.proofs.Reached.{bounds}
use Rattle.spindle_parts.proofs.Turning.{turned_is, no_marks}
use Rattle.spindle_parts.proofs.steps.registers.Registers.end.Goals as goal

pub returns-clause-served : goal.returns-clause-served
returns-clause-served c = let r = c.args.self.now in let is = sym c.is_closer.ensures ∙ c.if-not-is_closer.false in
    let closed = λ (q : ℕ). (bounds (shown r) c.requires.reached).closed c.args.party q (party_by r.closer c.args.party is) in
    (search rules, turned_is r c.turn.new.self c.turn.ensures.saw c.turn.ensures.turned closed)

pub returns-clause-tidy : goal.returns-clause-tidy
returns-clause-tidy c = let r = c.args.self.now in
    let t = c.requires.tidy in let room = c.turn.ensures.room in let fits = t.marks.room in let most = t.members in
    subst IsTidy (sym c.turn.ensures.turned) record {
      marks = no_marks r.entries c.turn.new.self.saw.items _ c.turn.ensures.saw (omega arith);
      left = t.left;
      inside = omega arith;
      members = most;
    }
