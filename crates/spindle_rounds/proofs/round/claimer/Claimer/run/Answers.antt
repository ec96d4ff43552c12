-- The number is finished, and then the share is spent.
use Rattle.spindle_rounds.proofs.PartyWork.{went_first, went_then, went_more, over_at, done_over}
use Rattle.spindle_rounds.proofs.round.claimer.Claimer.run.Goals as goal

pub run_share-requires-clause-at : goal.run_share-requires-clause-at
run_share-requires-clause-at g c κs within = let f = c.run.ensures in
    (went_more _ _ _ c.args.seat.now c.run.new.seat (went_first _ _ c.args.seat.now c.requires.at) f.seat f.finished.0 f.finished.1).at

pub run_share-requires-clause-over : goal.run_share-requires-clause-over
run_share-requires-clause-over g c κs within =
    λ e. over_at _ _ c.args.seat.now c.run.new.seat c.run.result c.requires.at c.run.ensures.finished (c.is_last-is_over.ensures e)

pub returns-in-Some-clause-went : goal.returns-in-Some-clause-went
returns-in-Some-clause-went g c = let f = c.run.ensures in went_then _ _ _ _ _
    (went_more _ _ _ c.args.seat.now c.run.new.seat (went_first _ _ c.args.seat.now c.requires.at) f.seat f.finished.0 f.finished.1) c.run_share.ensures.went

pub returns-in-Some-clause-keeps : goal.returns-in-Some-clause-keeps
returns-in-Some-clause-keeps g c = g.met.W.Work.keeps_then _ _ _ _ _ _ c.run.ensures.keeps c.run_share.ensures.keeps

pub returns-in-None-clause-over : goal.returns-in-None-clause-over
returns-in-None-clause-over g c = let f = c.run.ensures in
    let went = went_more _ _ _ c.args.seat.now c.run.new.seat (went_first _ _ c.args.seat.now c.requires.at) f.seat f.finished.0 f.finished.1 in
    λ e. done_over _ _ c.run.new.seat went.at
    (over_at _ _ c.args.seat.now c.run.new.seat c.run.result c.requires.at f.finished (c.is_last-is_over.ensures e))

pub returns-in-None-clause-went : goal.returns-in-None-clause-went
returns-in-None-clause-went g c = let f = c.run.ensures in
    went_more _ _ _ c.args.seat.now c.run.new.seat (went_first _ _ c.args.seat.now c.requires.at) f.seat f.finished.0 f.finished.1
