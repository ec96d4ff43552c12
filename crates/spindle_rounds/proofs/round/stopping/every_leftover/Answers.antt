-- What is left stands for what hasn't begun.
use Rattle.spindle_rounds.proofs.Leftovers.{every_leftover}
use Rattle.spindle_rounds.proofs.round.stopping.every_leftover.Goals as goal

pub returns : goal.returns
returns g c = λ v q n may_stop. every_leftover g.D.SlotContents.discipline v q n may_stop
