-- A try that gave no number leaves the seat without one.
use Rattle.std.proofs.Common.{refl, ◌∙◌}
use Rattle.spindle_rounds.proofs.Helpers.{none_held}
use Rattle.spindle_rounds.proofs.threads.helper_waits.take_number.Goals as goal

pub loop-init : goal.loop-init
loop-init g c = (c.requires.seated, c.requires.no_number, record { table = refl; id = refl; slots = refl })

pub try_take-requires-clause-seated : goal.try_take-requires-clause-seated
try_take-requires-clause-seated g c = c.loop.invariant.0

pub try_take-requires-clause-no_number : goal.try_take-requires-clause-no_number
try_take-requires-clause-no_number g c = c.loop.invariant.1

pub loop-preserved : goal.loop-preserved
loop-preserved g c = let e = c.try_take.ensures.seat.1 in let i = c.loop.invariant.2 in (
  c.try_take.ensures.seat.0,
  c.try_take.ensures.number ∙ none_held c.try_take.result c.in_default.not-Taken,
  record { table = e.table ∙ i.table; id = e.id ∙ i.id; slots = e.slots ∙ i.slots },
)

pub returns-in-Taken-clause-same : goal.returns-in-Taken-clause-same
returns-in-Taken-clause-same g c = let e = c.try_take.ensures.seat.1 in let i = c.loop.invariant.2 in
    record { table = e.table ∙ i.table; id = e.id ∙ i.id; slots = e.slots ∙ i.slots }
