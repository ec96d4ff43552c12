-- The tables were made for these threads with these slots, and its seats and spare seats stand at the tables that are shared.
use Rattle.std.proofs.Common.{All, ap, sym, subst, ◌∙◌}
use Rattle.std.specs.Arc.{arc_value}
use Rattle.spindle_rounds.specs.Seating.{slots_of}
use Rattle.spindle_rounds.specs.SpareSeats.{AreSpareSeatsAt}
use Rattle.spindle_rounds.specs.Opening.{AreSeatsAt}
use Rattle.spindle.proofs.lock.nested.NestedSlots+SlotWorkspace+J+A.open.Goals as goal

pub invariant_of-nested : goal.invariant_of-nested
invariant_of-nested g c = record {
  seated = subst (λ t. All (AreSpareSeatsAt t) c.in_ok-spare_seats.spare_seats.items) (sym c.in_ok-tables-2.ensures.ok) c.in_ok-spare_seats.ensures.spare_seats;
}

pub invariant_of-share : goal.invariant_of-share
invariant_of-share g c = record {
  many = ap (λ t. slots_of t.round.init) (c.in_ok-shared_tables.ensures ∙ c.in_ok-tables-2.ensures.ok) ∙ c.in_ok-tables.ensures.made.2;
  few = c.requires.slots;
}

pub invariant_of-leader_start : goal.invariant_of-leader_start
invariant_of-leader_start g c = record {
  seated = subst (λ t. AreSeatsAt t c.spare_seats.new.seats) (sym (c.in_ok-shared_tables.ensures ∙ c.in_ok-tables-2.ensures.ok)) c.spare_seats.ensures.seats;
}

pub returns-clause-share : goal.returns-clause-share
returns-clause-share g c = c.in_ok-shared_tables.ensures ∙ ap (λ n. arc_value n.tables) (sym c.in_ok-shared.ensures.ok)

pub returns-clause-counts : goal.returns-clause-counts
returns-clause-counts g c = ap (λ t. t.counts) (c.in_ok-shared_tables.ensures ∙ c.in_ok-tables-2.ensures.ok) ∙ c.in_ok-tables.ensures.made.0

pub returns-clause-idling : goal.returns-clause-idling
returns-clause-idling g c = ap (λ t. t.sleep.idling) (c.in_ok-shared_tables.ensures ∙ c.in_ok-tables-2.ensures.ok) ∙ c.in_ok-tables.ensures.idling
