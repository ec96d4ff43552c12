-- One answer more, and in the end all.
use Rattle.std.proofs.Common.{◌≡◌, ℕ, ◌-◌, ◌+◌, ◌++◌, ◌∷◌, [], Bool, not, length, ap, subst, sym, ◌∙◌, rules, arith}
use Rattle.std.specs.List.{filter, AllZip}
use Rattle.std.specs.Vec.Iter.{into_iter_items}
use Rattle.std.proofs.lemmas.List.{length_push, length-map}
use Rattle.std.proofs.lemmas.Iterator.Adapters.{YieldsList-from_vec}
use Rattle.std.proofs.lemmas.Iterator.Consumers.{YieldsList-end}
use Rattle.std.proofs.lemmas.Slice.Zip.{AllZip-long}
use Rattle.spindle.specs.Pieces.{counted}
use Rattle.spindle.proofs.Deals.{length-counted}
use Rattle.spindle.proofs.GatheredLists.{yielded_items}
use Rattle.spindle_examples.specs.Chomp.{squares_of, after, bites_of, replies_to, wins, IsEvaluation}
use Rattle.spindle_examples.proofs.Evaluations.{answered, one_passes, one_fails}
use Rattle.spindle_examples.proofs.evaluator.lost_after.Goals as goal
use Rattle.spindle_examples.proofs.evaluator.lost_after.Goals.{then-not-branch+in_ok-push, else-not-branch}

pub loop-answer-preserved : goal.loop-answer-preserved
loop-answer-preserved g c =
    let board = c.args.board in
    let test : ℕ → Bool = λ at. not (wins (after board at)) in
    let before = c.loop-answer.yielded in
    let n : ℕ = length before in
    let more : n + 1 ≡ length (before ++ c.in-Some.answer ∷ []) = sym (length_push before c.in-Some.answer) in
    let here : c.loop-answer.square ≡ 1 + n = omega (arith, c.loop-answer.invariant.square) in
    let next = rw (c.in-Some.is) at c.next.ensures.steps in
    let later = into_iter_items c.next.new.self in
    let whole : c.args.answers.items ≡ before ++ c.in-Some.answer ∷ later =
    sym c.into_iter-answer-iterator.ensures.into_iter_gives.0 ∙ yielded_items before _ _ c.loop-answer.yielded_by ∙ ap (λ l. before ++ l) next.0 in
    let said : g.K.Job.meets (after board (1 + n)) c.in-Some.answer =
    answered g.K.Job.meets board 1 (squares_of board - 1) before c.in-Some.answer later
    (subst (λ l. AllZip g.K.Job.meets (replies_to board) l) whole c.requires) in
    let says = g.met.K.Evaluates.evaluates (after board (1 + n)) c.in-Some.answer said in
    let won : wins (after board (1 + n)) ≡ c.in_ok-answer.field-0 =
    sym (subst (λ r. IsEvaluation (after board (1 + n)) r) c.in_ok-answer.was says) in
    elim c.if-not-branch.branch [
      | then-not-branch+in_ok-push w ↦ record {
        bites = rw (w.bites-is, w.in_ok-push.ensures.items, here)
            (ap (λ l. l ++ (1 + n) ∷ []) c.loop-answer.invariant.bites
            ∙ one_passes test n (ap not (won ∙ w.if-not-branch.true))
            ∙ ap (λ m. filter test (counted 1 m)) more);
        square = omega arith;
      }
      | else-not-branch w ↦ record {
        bites = rw w.bites-is
            (c.loop-answer.invariant.bites
            ∙ one_fails test n (ap not (won ∙ w.if-not-branch.false))
            ∙ ap (λ m. filter test (counted 1 m)) more);
        square = omega arith;
      }
    ]

pub returns : goal.returns
returns g c =
    let board = c.args.board in
    let test : ℕ → Bool = λ at. not (wins (after board at)) in
    let answers = c.args.answers.items in
    let given = c.into_iter-answer-iterator.ensures.into_iter_gives in
    let long : length c.loop-answer.yielded ≡ length answers =
    (YieldsList-end (YieldsList-from_vec answers given.0 (search rules)) c.loop-answer.yielded c.loop-answer.answer-iterator
    c.loop-answer.yielded_by c.next.result c.next.new.self c.in-None.is c.next.ensures.steps).1 in
    let all : length answers ≡ squares_of board - 1 =
    AllZip-long g.K.Job.meets (replies_to board) answers c.requires ∙ length-map (bites_of board) (after board) ∙ length-counted 1 (squares_of board - 1) in
    c.loop-answer.invariant.bites ∙ ap (λ n. filter test (counted 1 n)) (long ∙ all)
