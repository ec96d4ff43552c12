-- Each turn is one of those that were left.
use Rattle.std.proofs.Common.{◌≡◌, ℕ, suc, ◌+◌, ◌-◌, ap, ◌∙◌, arith}
use Rattle.spindle_rounds.specs.SlotHands.{turned_by}
use Rattle.spindle_rounds.proofs.round.pieces.Round+PieceSlots+A.turn_slots.Goals as goal

pub loop-preserved : goal.loop-preserved
loop-preserved g c = let i = c.loop.invariant in let e = c.turn.ensures in let k : ℕ = c.loop.counter in let n : ℕ = c.args.slots in
    let one : suc (n - (k + 1)) ≡ n - k = omega arith in record {
      seat = (e.0 ∙ i.seat.0, e.1 ∙ i.seat.1);
      view = ap (λ m. m.0) e.2 ∙ i.view;
      left = ap (λ m. turned_by (n - (k + 1)) m.1) e.2 ∙ (ap (λ (j : ℕ). turned_by j c.loop.seat.me.1) one ∙ i.left);
    }
