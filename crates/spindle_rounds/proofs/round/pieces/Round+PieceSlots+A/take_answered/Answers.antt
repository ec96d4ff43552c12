-- The rule tells the leader, by its own trail, that each number of the round has finished.
use Rattle.spindle_rounds.proofs.PieceClients.{all_answered}
use Rattle.spindle_rounds.proofs.round.pieces.Round+PieceSlots+A.take_answered.Goals as goal

pub returns : goal.returns
returns g c = let t = c.take_slots.ensures.step in let p = c.requires.published in record {
  seat = c.take_slots.ensures.seat;
  step = t;
  answered = all_answered g.A.PieceKind.answers _ t.0 c.args.jobs p.0 c.args.seat.now.me c.take_slots.new.seat.me t.1 c.requires.few p.1 p.2;
}
