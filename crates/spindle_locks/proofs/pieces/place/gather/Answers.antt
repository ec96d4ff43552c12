-- There is room for one more piece's outputs, they answer its items, and what the places held is told place by place.
use Rattle.std.proofs.Common.{◌≡◌, ◌+◌, ◌<◌, sym, ◌∙◌, arith, refl}
use Rattle.std.proofs.lemmas.Bool.{false≢true}
use Rattle.spindle_locks.proofs.PieceRuns.{room_for_next, answered_next}
use Rattle.spindle_locks.proofs.TrayPlaces.{at_others, told_at, none_past, one_more_done}
use Rattle.spindle_locks.proofs.pieces.place.gather.Goals as goal

pub hand_over-requires : goal.hand_over-requires
hand_over-requires g c =
    let h : c.args.number + c.loop-at.at < c.args.pieces.now.count = omega (arith, c.requires.numbers, c.loop-at-test.true) in
    record { room = room_for_next _ _ _ _ _ c.loop-at.outputs h c.piece.ensures.run c.loop-at.invariant.before }

pub loop-at-preserved : goal.loop-at-preserved
loop-at-preserved g c =
    let p = c.args.pieces.now in
    let number = c.args.number + c.loop-at.at in
    let at = c.args.from + c.loop-at.at in
    let now = c.loop-at.tray.items in
    let old = c.args.tray.now.items in
    let is = c.piece.ensures.run in
    let h : number < p.count = omega (arith, c.requires.numbers, c.loop-at-test.true) in
    let next : c.args.number + (c.loop-at.at + 1) ≡ number + 1 = omega arith in
    let held = told_at p.items c.piece.result.now p.count number at now old c.index_mut.result.now (omega (arith, c.if-place-len.false, c.len.ensures))
    c.index_mut.ensures.value (c.loop-at.invariant.others at (omega arith)) is c.hand_over.ensures.held in
    record {
      before = rw next (answered_next _ _ _ _ number c.loop-at.outputs c.hand_over.new.outputs h is c.loop-at.invariant.before
          (c.hand_over.ensures.answers c.if-not-hand_over.false) c.hand_over.ensures.room);
      held = one_more_done p.items p.count c.args.number c.args.from c.loop-at.at old c.loop-at.invariant.held (held.0 c.if-not-hand_over.false);
      others = λ k le. at_others now at c.hand_over.new.self k (λ e. omega (arith, le, e)) ∙ c.loop-at.invariant.others k (omega (arith, le));
    }

pub returns-then-place-len-clause-lost : goal.returns-then-place-len-clause-lost
returns-then-place-len-clause-lost g c =
    let p = c.args.pieces.now in
    let at = c.args.from + c.loop-at.at in
    let missing = none_past p.items p.count (c.args.number + c.loop-at.at) at c.loop-at.tray.items c.args.tray.now.items
    (omega (arith, c.if-place-len.true, c.len.ensures)) (c.loop-at.invariant.others at (omega arith)) in
    (c.loop-at.at, c.loop-at-test.true, refl, c.loop-at.invariant.held, missing)

pub returns-then-not-hand_over-clause-lost : goal.returns-then-not-hand_over-clause-lost
returns-then-not-hand_over-clause-lost g c =
    let p = c.args.pieces.now in
    let at = c.args.from + c.loop-at.at in
    let held = told_at p.items c.piece.result.now p.count (c.args.number + c.loop-at.at) at c.loop-at.tray.items c.args.tray.now.items
    c.index_mut.result.now (omega (arith, c.if-place-len.false, c.len.ensures)) c.index_mut.ensures.value
    (c.loop-at.invariant.others at (omega arith)) c.piece.ensures.run c.hand_over.ensures.held in
    (c.loop-at.at, c.loop-at-test.true, refl, c.loop-at.invariant.held, λ here. false≢true (sym c.if-not-hand_over.true ∙ held.1 here))

pub returns-clause-complete : goal.returns-clause-complete
returns-clause-complete g c i lt = c.loop-at.invariant.held i (omega (arith, lt, c.loop-at-test.false))
