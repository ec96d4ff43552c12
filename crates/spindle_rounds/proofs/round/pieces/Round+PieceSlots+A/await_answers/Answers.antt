-- The round has ended, and the leader has published it and nothing since.
use Rattle.spindle_rounds.proofs.PieceRounds.{may_take, still_published, answered_then}
use Rattle.spindle_rounds.proofs.round.pieces.Round+PieceSlots+A.await_answers.Goals as goal

pub take_answered-requires-clause-leads : goal.take_answered-requires-clause-leads
take_answered-requires-clause-leads g c =
    may_take g.A.PieceKind.answers _ c.args.jobs c.args.leader.now.seat.me c.wait.new.self.seat.me c.requires.awaits c.wait.ensures.next

pub take_answered-requires-clause-published : goal.take_answered-requires-clause-published
take_answered-requires-clause-published g c =
    still_published g.A.PieceKind.answers _ c.args.jobs c.args.leader.now.seat.me c.wait.new.self.seat.me c.requires.awaits c.wait.ensures.next

pub returns-clause-answered : goal.returns-clause-answered
returns-clause-answered g c = answered_then g.A.PieceKind.answers _ c.args.jobs c.args.leader.now.seat.me c.wait.new.self.seat.me c.requires.awaits
    c.wait.ensures.next _ c.take_answered.ensures.answered
