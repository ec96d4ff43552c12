-- One more place's outputs stand in the list, and it is empty.
use Rattle.std.proofs.Common.{◌≡◌, ◌<◌, ◌++◌, length, None, ◌∙◌, subst, rules, arith}
use Rattle.std.specs.List.{AllZip}
use Rattle.std.proofs.lemmas.List.{take_all}
use Rattle.spindle_locks.specs.Outputs.{all_inputs_in}
use Rattle.spindle_locks.proofs.Places.{outputs_more, nothing_more, outputs_fit, found_there, set-emptied}
use Rattle.spindle_locks.proofs.pieces.gathering.move_outputs.Goals as goal
use Rattle.spindle_locks.proofs.pieces.gathering.move_outputs.Goals.{in-Some, in_default}

pub unwrap-requires : goal.unwrap-requires
unwrap-requires g c =
    let R = g.J.Job.meets in
    let places = c.args.places.now.items in
    let k = c.loop-k.k in
    let d = c.index_mut.result.now in
    let room = c.loop-k.outputs.items in
    let h : k < length places = omega arith in
    let here = found_there places c.loop-k.places.items k d c.take.result c.loop-k.invariant.emptied h c.index_mut.ensures.value c.take.ensures.value in
    let more = outputs_more R places k d c.in-Some.finished room c.into_outputs.result.items h
    (here ∙ c.in-Some.is) c.loop-k.invariant.answers c.into_outputs.ensures.answers in
    let fit = outputs_fit R places k room c.into_outputs.result.items more in
    c.append.ensures.succeeds (omega (arith, fit, c.loop-k.invariant.space))

pub loop-k-preserved : goal.loop-k-preserved
loop-k-preserved g c =
    let R = g.J.Job.meets in
    let places = c.args.places.now.items in
    let k = c.loop-k.k in
    let d = c.index_mut.result.now in
    let room = c.loop-k.outputs.items in
    let h : k < length places = omega arith in
    let here = found_there places c.loop-k.places.items k d c.take.result c.loop-k.invariant.emptied h c.index_mut.ensures.value c.take.ensures.value in
    record {
      answers = elim c.match-take.branch [
        | in-Some w ↦
            let e : c.match-take.outputs.items ≡ room ++ w.into_outputs.result.items = search rules in
            rw e (outputs_more R places k d w.in-Some.finished room w.into_outputs.result.items h
            (here ∙ w.in-Some.is) c.loop-k.invariant.answers w.into_outputs.ensures.answers)
        | in_default w ↦ rw w.outputs-is (nothing_more R places k d room h (here ∙ w.in_default.is) c.loop-k.invariant.answers)
      ];
      emptied = rw (c.take.ensures.after, c.loop-k.invariant.emptied) (set-emptied None k places h);
      space = elim c.match-take.branch [
        | in-Some w ↦ rw w.outputs-is (omega (arith, c.loop-k.invariant.space, w.append.ensures.capacity))
        | in_default w ↦ rw w.outputs-is c.loop-k.invariant.space
      ];
    }

pub returns-clause-answers : goal.returns-clause-answers
returns-clause-answers g c = let i = c.loop-k.invariant in
    subst (λ places. AllZip g.J.Job.meets (all_inputs_in places) c.loop-k.outputs.items) (take_all c.loop-k.k c.args.places.now.items (omega arith)) i.answers
