-- Each kind of step: what its call on the registers does is what the machine's step does.
use Rattle.std.proofs.Common.{refl}
use Rattle.spindle_parts.specs.Machine.{claimed, rested}
use Rattle.spindle_parts.specs.Registers.{shown}
use Rattle.spindle_parts.specs.Serving.{granted_by}
use Rattle.spindle_parts.specs.declared.steps.Step.TheVariants as steps
use Rattle.spindle_parts.proofs.Serving.{always, Stepped, by_word, by_plain, by_job}
use Rattle.spindle_parts.proofs.steps.Machine.step.Goals as goal
use Rattle.spindle_parts.proofs.steps.Machine.step.Goals.{in-Join, in-Publish, in-PublishTry, in-Claim, in-Rest, in-Finish, in-Stop, in-See, in-Arrive, in-Exit}
use Rattle.spindle_parts.proofs.steps.Machine.step.Goals.{in-Leave, in-Clear, in-End}

stepped : (c : goal.Joined-step) → Stepped c.args.self.now c.args.step c.match-step.self-inside c.match-step.result
stepped c =
    let r = c.self.inside.registers in
    let word = by_plain r c.self.invariant c.args.self.now c.args.step c.match-step.self-inside c.match-step.result c.self.view_is in
    let job = by_job r c.self.invariant c.args.self.now c.args.step c.match-step.self-inside c.match-step.result c.self.view_is in
    elim c.match-step.branch [
      | in-Join w ↦ let u = w.join in let e = u.ensures in
          by_word r c.self.invariant c.args.self.now c.args.step c.match-step.self-inside c.match-step.result c.self.view_is
          u.new.self (granted_by u.result) (steps.Join w.in-Join.party) w.answer.result u.result (w.in-Join.is, w.self-inside-is, w.result-is)
          record { range = always _ (λ _. tt) u.result; served = e.served; tidy = e.tidy; known = e.known; first = e.first } w.answer.ensures refl
      | in-Publish w ↦ let u = w.publish in let e = u.ensures in let a = w.answer-in-Publish in
          word u.new.self (steps.Publish w.in-Publish.party w.in-Publish.count) a.result u.result
          (w.in-Publish.is, w.self-inside-is, w.result-is) e.served e.tidy e.known e.range a.ensures refl
      | in-PublishTry w ↦ let u = w.publish-in-PublishTry in let e = u.ensures in let a = w.answer-in-PublishTry in
          word u.new.self (steps.PublishTry w.in-PublishTry.party w.in-PublishTry.count) a.result u.result
          (w.in-PublishTry.is, w.self-inside-is, w.result-is) e.served e.tidy e.known e.range a.ensures refl
      | in-Claim w ↦ let u = w.claim in let e = u.ensures in let a = w.claim_answer in
          job u.new.self (steps.Claim w.in-Claim.party w.in-Claim.thread) a.result (claimed (shown r) w.in-Claim.thread) u.result
          (w.in-Claim.is, w.self-inside-is, w.result-is) e.served e.tidy e.known tt a.ensures e.number refl
      | in-Rest w ↦ let u = w.rest in let e = u.ensures in let a = w.claim_answer-in-Rest in
          job u.new.self (steps.Rest w.in-Rest.party) a.result (rested (shown r)) u.result
          (w.in-Rest.is, w.self-inside-is, w.result-is) e.served e.tidy e.known tt a.ensures e.number refl
      | in-Finish w ↦ let u = w.finish in let e = u.ensures in let a = w.answer-in-Finish in word u.new.self (steps.Finish w.in-Finish.party) a.result u.result
          (w.in-Finish.is, w.self-inside-is, w.result-is) e.served e.tidy e.known (always _ (λ _. tt) u.result) a.ensures refl
      | in-Stop w ↦ let u = w.stop in let e = u.ensures in let a = w.answer-in-Stop in word u.new.self (steps.Stop w.in-Stop.party) a.result u.result
          (w.in-Stop.is, w.self-inside-is, w.result-is) e.served e.tidy e.known (always _ (λ _. tt) u.result) a.ensures refl
      | in-See w ↦ let u = w.see in let e = u.ensures in let a = w.answer-in-See in word u.new.self (steps.See w.in-See.party) a.result u.result
          (w.in-See.is, w.self-inside-is, w.result-is) e.served e.tidy e.known (always _ (λ _. tt) u.result) a.ensures refl
      | in-Arrive w ↦ let u = w.arrive in let e = u.ensures in let a = w.answer-in-Arrive in word u.new.self (steps.Arrive w.in-Arrive.party) a.result u.result
          (w.in-Arrive.is, w.self-inside-is, w.result-is) e.served e.tidy e.known (always _ (λ _. tt) u.result) a.ensures refl
      | in-Leave w ↦ let u = w.leave in let e = u.ensures in let a = w.answer-in-Leave in word u.new.self (steps.Leave w.in-Leave.party) a.result u.result
          (w.in-Leave.is, w.self-inside-is, w.result-is) e.served e.tidy e.known (always _ (λ _. tt) u.result) a.ensures refl
      | in-Exit w ↦ let u = w.exit in let e = u.ensures in let a = w.answer-in-Exit in word u.new.self (steps.Exit w.in-Exit.party) a.result u.result
          (w.in-Exit.is, w.self-inside-is, w.result-is) e.served e.tidy e.known (always _ (λ _. tt) u.result) a.ensures refl
      | in-Clear w ↦ let u = w.clear in let e = u.ensures in let a = w.answer-in-Clear in word u.new.self (steps.Clear w.in-Clear.party) a.result u.result
          (w.in-Clear.is, w.self-inside-is, w.result-is) e.served e.tidy e.known (always _ (λ _. tt) u.result) a.ensures refl
      | in-End w ↦ let u = w.end in let e = u.ensures in let a = w.answer-in-End in word u.new.self (steps.End w.in-End.party) a.result u.result
          (w.in-End.is, w.self-inside-is, w.result-is) e.served e.tidy e.known (always _ (λ _. tt) u.result) a.ensures refl
    ]

pub invariant_of-self : goal.invariant_of-self
invariant_of-self c = (stepped c).steady

pub returns : goal.returns
returns c = let s = stepped c in record { served = s.served; reached = s.steady.reached; refused = s.refused; memory = s.memory; known = s.known }
