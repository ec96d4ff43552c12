-- One bite more, and in the end all.
use Rattle.std.proofs.Common.{◌≡◌, ℕ, ◌-◌, ◌+◌, ◌++◌, ◌∷◌, [], map, ap, ◌∙◌, arith}
use Rattle.spindle.specs.Pieces.{counted}
use Rattle.spindle.proofs.ListLaws.{counted_snoc, map_snoc}
use Rattle.spindle_examples.specs.Chomp.{squares_of, after}
use Rattle.spindle_examples.proofs.chomp.Board.replies.Goals as goal

pub loop-square-preserved : goal.loop-square-preserved
loop-square-preserved c =
    let board = c.args.self.now in
    let before : ℕ = c.loop-square.square - 1 in
    let here : 1 + before ≡ c.loop-square.square = omega arith in
    let next : c.loop-square.square + 1 - 1 ≡ before + 1 = omega arith in
    let more = map_snoc (after board) (counted 1 before) c.loop-square.square in
    record {
      low = omega arith;
      boards = rw (c.in_ok-push.ensures.items, next, counted_snoc 1 before, here, more, c.bitten.ensures)
          (ap (λ l. l ++ after board c.loop-square.square ∷ []) c.loop-square.invariant.boards);
    }

pub returns : goal.returns
returns c =
    let all : c.loop-square.square - 1 ≡ squares_of c.args.self.now - 1 = omega (arith, c.loop-square.invariant.low, c.loop-square-test.false) in
    c.loop-square.invariant.boards ∙ ap (λ n. map (after c.args.self.now) (counted 1 n)) all
