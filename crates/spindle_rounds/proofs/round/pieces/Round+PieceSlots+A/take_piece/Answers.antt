use Rattle.std.proofs.Common.{rules}
use Rattle.spindle_rounds.proofs.round.pieces.Round+PieceSlots+A.take_piece.Goals as goal

pub exchange-requires : goal.exchange-requires
exchange-requires g c = search rules
