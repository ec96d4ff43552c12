-- A party lends its seat: a write through the reference lands in the party,
-- and nothing else of it changes.
use denote.RattleType.{RattleType}
use mir.Syntax.{named}
use Rattle.std.specs.Prelude.{[]}
use Rattle.std.specs.Borrow.{Lends, MutBor, Fml}
use Rattle.spindle_rounds.specs.declared.barrier.Barrier.{Barrier}
use Rattle.spindle_rounds.specs.declared.barrier.detached_party.DetachedParty.{DetachedParty}
use Rattle.spindle_rounds.specs.declared.round_table.slots.SlotContents as slots
use Rattle.spindle_rounds.specs.declared.round_table.view.View.{View}
use Rattle.spindle_rounds.specs.contracts.barrier.Barrier as barrier
use Rattle.spindle_rounds.specs.contracts.barrier.detached_party.DetachedParty as detached
use Rattle.spindle_rounds.specs.contracts.round_table.view.View as view
use Rattle.atomic_table.specs.declared.shared.Seat.{Seat}
use Rattle.atomic_table.specs.contracts.shared.Seat as seat

module _ (T S N : RattleType) (d : slots.Ghosts T.Denot S.Denot N.Denot) where
  -- the reference r shows the seat of the barrier b,
  -- and what is written through it becomes that seat
  abbrev pub LendsSeat : MutBor (Barrier T.Denot S.Denot N.Denot)
      → MutBor (Seat S.Denot (View N.Denot)) → Fml
  LendsSeat b r = Lends (barrier.the_row (record { mir = named 0; lft = [] }) T S N d)
      (seat.the_row S (view.the_row N)) b r (λ w. record b.now { seat = w })

  -- the same of a party without its barrier
  abbrev pub LendsDetachedSeat : MutBor (DetachedParty T.Denot S.Denot N.Denot)
      → MutBor (Seat S.Denot (View N.Denot)) → Fml
  LendsDetachedSeat b r = Lends (detached.the_row T S N) (seat.the_row S (view.the_row N)) b r
      (λ w. record b.now { seat = w })
