-- A bite after which the other one has lost wins, and where there is none the board is lost.
use Rattle.std.proofs.Common.{◌≡◌, ℕ, ◌-◌, ◌+◌, Bool, true, false, not, ap, sym, subst, ◌∙◌, arith}
use Rattle.std.specs.List.{list_any}
use Rattle.spindle.specs.Pieces.{counted}
use Rattle.spindle_examples.specs.Chomp.{squares_of, after, wins}
use Rattle.spindle_examples.proofs.Evaluations.{wins_by, any_counted, none_more}
use Rattle.spindle_examples.proofs.chomp.Board.+is_won.Goals as goal

pub returns-then-not-is_won : goal.returns-then-not-is_won
returns-then-not-is_won t c =
    let board = c.args.self in
    let test : ℕ → Bool = λ at. not (wins (after board at)) in
    let wins_here : test c.loop-square.square ≡ true =
    ap not (ap wins (sym c.bitten.ensures) ∙ sym c.is_won.ensures ∙ c.if-not-is_won.true) in
    sym (wins_by board ∙ any_counted test 1 (squares_of board - 1) c.loop-square.square (omega arith) (omega arith) wins_here)

pub loop-square-preserved : goal.loop-square-preserved
loop-square-preserved t c =
    let board = c.args.self in
    let test : ℕ → Bool = λ at. not (wins (after board at)) in
    let before : ℕ = c.loop-square.square - 1 in
    let here : c.loop-square.square ≡ 1 + before = omega arith in
    let next : c.loop-square.square + 1 - 1 ≡ before + 1 = omega arith in
    let loses_here : test c.loop-square.square ≡ false =
    ap not (ap wins (sym c.bitten.ensures) ∙ sym c.is_won.ensures ∙ c.if-not-is_won.false) in
    record {
      low = omega arith;
      none = ap (λ n. list_any test (counted 1 n)) next
          ∙ none_more test 1 before c.loop-square.invariant.none (subst (λ at. test at ≡ false) here loses_here);
    }

pub returns : goal.returns
returns t c =
    let board = c.args.self in
    let test : ℕ → Bool = λ at. not (wins (after board at)) in
    let all : squares_of board - 1 ≡ c.loop-square.square - 1 = omega (arith, c.loop-square.invariant.low, c.loop-square-test.false) in
    sym (wins_by board ∙ ap (λ n. list_any test (counted 1 n)) all ∙ c.loop-square.invariant.none)
