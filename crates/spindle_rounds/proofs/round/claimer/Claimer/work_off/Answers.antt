-- Its own range, then the longest ones, then the remainder.
use Rattle.spindle_rounds.proofs.PartyWork.{went_then, done_at}
use Rattle.spindle_rounds.proofs.round.claimer.Claimer.work_off.Goals as goal

pub returns-then-run_from-clause-done : goal.returns-then-run_from-clause-done
returns-then-run_from-clause-done g c = rw c.if-run_from.true at c.run_from.ensures.left

pub returns-then-run_from-2-clause-went : goal.returns-then-run_from-2-clause-went
returns-then-run_from-2-clause-went g c = went_then _ _ _ _ _ c.run_from.ensures.went c.run_from-2.ensures.went

pub returns-then-run_from-2-clause-done : goal.returns-then-run_from-2-clause-done
returns-then-run_from-2-clause-done g c = rw c.if-run_from-2.true at c.run_from-2.ensures.left

pub returns-then-run_from-2-clause-keeps : goal.returns-then-run_from-2-clause-keeps
returns-then-run_from-2-clause-keeps g c = g.met.W.Work.keeps_then _ _ _ _ _ _ c.run_from.ensures.keeps c.run_from-2.ensures.keeps

pub returns-clause-went : goal.returns-clause-went
returns-clause-went g c = went_then _ _ _ _ _ (went_then _ _ _ _ _ c.run_from.ensures.went c.run_from-2.ensures.went) c.run_from-3.ensures.went

pub returns-clause-done : goal.returns-clause-done
returns-clause-done g c = done_at _ _ c.run_from-2.new.seat c.run_from-3.new.seat c.run_from-3.ensures.went
    (rw c.if-run_from-2.false at c.run_from-2.ensures.left) c.run_from-3.result c.run_from-3.ensures.left

pub returns-clause-keeps : goal.returns-clause-keeps
returns-clause-keeps g c = g.met.W.Work.keeps_then _ _ _ _ _ _
    (g.met.W.Work.keeps_then _ _ _ _ _ _ c.run_from.ensures.keeps c.run_from-2.ensures.keeps) c.run_from-3.ensures.keeps
