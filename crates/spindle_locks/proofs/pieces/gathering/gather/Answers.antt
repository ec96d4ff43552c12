-- One more place that holds its piece, the first that doesn't, and what all of them hold together.
use Rattle.std.proofs.Common.{◌<◌, ◌+◌, length, take, ap, sym, ◌∙◌, arith, rules}
use Rattle.spindle_locks.specs.Outputs.{HoldsPiece, HoldAll}
use Rattle.spindle_locks.proofs.Places.{all_zip_take, all_zip_at, all_zip_all, all_zip_more, inputs_of_pieces}
use Rattle.std.proofs.lemmas.Bool.{false≢true}
use Rattle.spindle_locks.proofs.pieces.gathering.gather.Given.{Over}
use Rattle.spindle_locks.proofs.pieces.gathering.gather.Goals as goal

not_here : (g : Over) (c : goal.Then-not-holds g) → HoldAll (take (c.loop-k.k + 1) c.args.handed.now) (take (c.loop-k.k + 1) c.args.places.now.items) → ⊥
not_here g c z =
    let pieces = c.args.handed.now in
    let places = c.args.places.now.items in
    let k = c.loop-k.k in
    let h : k < length pieces = search rules in
    let h' : k < length places = search rules in
    let held = all_zip_at HoldsPiece k pieces places c.index-handed-k.result c.index.result.now h h' z in
    let here = rw (← c.index-handed-k.is, ← c.index.ensures) at held in
    false≢true (sym c.if-not-holds.true ∙ c.holds.ensures.1 here)

pub returns-then-not-holds-clause-lost : goal.returns-then-not-holds-clause-lost
returns-then-not-holds-clause-lost g c = (c.loop-k.invariant, λ z. not_here g c z)

pub returns-then-not-holds-clause-complete : goal.returns-then-not-holds-clause-complete
returns-then-not-holds-clause-complete g c =
    (λ t. absurd (false≢true t), λ z. absurd (not_here g c (all_zip_take HoldsPiece (c.loop-k.k + 1) c.args.handed.now c.args.places.now.items z)))

pub loop-k-preserved : goal.loop-k-preserved
loop-k-preserved g c =
    let pieces = c.args.handed.now in
    let places = c.args.places.now.items in
    let k = c.loop-k.k in
    let h : k < length pieces = search rules in
    let h' : k < length places = search rules in
    let here = c.holds.ensures.0 (search rules) in
    all_zip_more HoldsPiece k pieces places c.index-handed-k.result c.index.result.now h h' c.loop-k.invariant
    (rw (← c.index-handed-k.is, ← c.index.ensures) here)

pub move_outputs-requires-clause-space : goal.move_outputs-requires-clause-space
move_outputs-requires-clause-space g c =
    let pieces = c.args.handed.now in
    let places = c.args.places.now.items in
    let z = all_zip_all HoldsPiece c.loop-k.k pieces places (omega arith) (omega arith) c.loop-k.invariant in
    omega (arith, ap length (inputs_of_pieces pieces places z), c.requires.space)

pub returns-clause-answers : goal.returns-clause-answers
returns-clause-answers g c =
    let pieces = c.args.handed.now in
    let places = c.args.places.now.items in
    let z = all_zip_all HoldsPiece c.loop-k.k pieces places (omega arith) (omega arith) c.loop-k.invariant in
    rw (← inputs_of_pieces pieces places z) c.move_outputs.ensures.answers
