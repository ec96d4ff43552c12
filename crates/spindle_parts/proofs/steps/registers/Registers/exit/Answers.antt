-- Who exits was counted; with the last member gone nobody is in, so the flip wakes nobody.
use Rattle.std.proofs.Common.{rules, ◌≡◌, ◌-◌, sym, ap, ◌∙◌, subst, arith, eq-eqb, Bool, if◌then◌else◌}
use Rattle.spindle_parts.specs.State.{Out}
use Rattle.spindle_parts.specs.Machine.{Configuration, standing, turned, closing}
use Rattle.spindle_parts.specs.Registers.{shown, IsTidy}
use Rattle.spindle_parts.specs.declared.steps.registers.Registers.{Registers}
use Rattle.spindle_parts.proofs.Reached.{bounds}
use Rattle.spindle_parts.proofs.Marks.{known_inside, sense_kept}
use Rattle.spindle_parts.proofs.Turning.{turned_is, no_marks, nobody}
use Rattle.spindle_parts.proofs.steps.registers.Registers.exit.Goals as goal

pub overflow_sub-self : goal.overflow_sub-self
overflow_sub-self c =
    let b₀ = ((bounds (shown c.args.self.now) c.requires.reached).in_counts c.args.party (sym c.is_inside.ensures ∙ c.if-not-is_inside.false)).0 in omega arith

pub overflow_sub-self-2 : goal.overflow_sub-self-2
overflow_sub-self-2 c =
    let b₁ = ((bounds (shown c.args.self.now) c.requires.reached).in_counts c.args.party (sym c.is_inside.ensures ∙ c.if-not-is_inside.false)).1 in omega arith

pub returns-then-self-eq0-clause-served : goal.returns-then-self-eq0-clause-served
returns-then-self-eq0-clause-served c = let r = c.args.self.now in let p = c.args.party in
    let w = sym c.is_inside.ensures ∙ c.if-not-is_inside.false in let b = (bounds (shown r) c.requires.reached).in_counts p w in let b₁ = b.1 in
    let mid : Registers = record r { entries = c.set_sense.new.entries; inside = r.inside - 1; members = r.members - 1 } in
    let gone : Configuration = record (shown r) { seat = standing (shown r) p Out; inside = r.inside - 1; members = r.members - 1 } in
    let same : shown mid ≡ gone = search rules in
    let one : r.members ≡ 1 = (let z = c.if-self-eq0.true in omega arith) in
    let turns = turned_is mid c.turn.new.self c.turn.ensures.saw c.turn.ensures.turned (λ q e. nobody (shown r) p
    (λ x n. (bounds (shown r) c.requires.reached).alone p x w one n) q (sym (ap (λ (m : Configuration). (m.seat q).status) same) ∙ e)) in
    let last = sym (ap (λ (b : Bool). if b then turned gone else closing gone p) (eq-eqb (r.members - 1) 0 c.if-self-eq0.true)) in
    (search rules, turns ∙ (ap turned same ∙ last))

pub returns-then-self-eq0-clause-tidy : goal.returns-then-self-eq0-clause-tidy
returns-then-self-eq0-clause-tidy c = let r = c.args.self.now in
    let t = c.requires.tidy in let le = t.inside in let most = t.members in let w = sym c.is_inside.ensures ∙ c.if-not-is_inside.false in
    let fits = (sense_kept r.entries c.set_sense.new.entries _ _ c.args.party t.marks (known_inside r c.args.party w) _ c.set_sense.ensures.written).room in
    let room = c.turn.ensures.room in subst IsTidy (sym c.turn.ensures.turned) record {
      marks = no_marks c.set_sense.new.entries c.turn.new.self.saw.items _ c.turn.ensures.saw (omega arith);
      left = t.left;
      inside = omega arith;
      members = omega arith;
    }

pub returns-else-self-eq0-clause-tidy : goal.returns-else-self-eq0-clause-tidy
returns-else-self-eq0-clause-tidy c = let r = c.args.self.now in let t = c.requires.tidy in
    let le = t.inside in let most = t.members in let w = sym c.is_inside.ensures ∙ c.if-not-is_inside.false in subst IsTidy (sym c.close.ensures) record {
      marks = sense_kept r.entries _ _ _ c.args.party t.marks (known_inside r c.args.party w) _ c.set_sense.ensures.written;
      left = t.left;
      inside = omega arith;
      members = omega arith;
    }
