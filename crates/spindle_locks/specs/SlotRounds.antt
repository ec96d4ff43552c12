-- A round whose pieces stand in the slots of the round table.
use Rattle.std.specs.Prelude.{◌≡◌, ℕ, [], true}
use Rattle.atomic_table.specs.Table.{Me}
use Rattle.spindle_rounds.specs.declared.barrier.Barrier.{Barrier}
use Rattle.spindle_rounds.specs.declared.round_table.pieces.SlotState.{SlotState}
use Rattle.spindle_rounds.specs.declared.round_table.view.View.{View}
use Rattle.spindle_rounds.specs.Passing.{InNext}
use Rattle.spindle_rounds.specs.PieceRounds.{PublishedPieces}
use Rattle.spindle_rounds.specs.RoundConditions.{MayFill}
use Rattle.spindle_rounds.specs.RoundPieces.{pieces, AreAnswered}
use Rattle.spindle_rounds.specs.RoundViews.{Onward}
use Rattle.spindle_rounds.specs.Seating.{slots_of}
use Rattle.spindle_rounds.specs.SlotHands.{AllOut}
use Rattle.spindle_rounds.specs.SlotLoops.{HoldsEach, IsEmpty}
use Rattle.spindle_rounds.specs.SlotSteps.{TakenOut}
use Rattle.spindle_rounds.specs.Working.{IsIdle}
use Rattle.spindle_rounds.specs.declared.threads.tables.Tables.{Tables}
use Rattle.spindle_rounds.specs.Members.{IsAt, party_view}

-- the leader of these tables between two rounds, by what its seat knows: all their slots are out
pub record LeadsAt {T P A : Type 0} (tables : Tables T (SlotState P A) P)
    (b : Barrier T (SlotState P A) P) : Type 0 where
  pub at : IsAt tables b
  pub leads : (party_view b).leader ≡ true
  pub between : MayFill (party_view b)
  pub idle : IsIdle (party_view b)
  pub out : AllOut (slots_of tables.round.init) (party_view b).board

-- and all of them are at its hand, empty
pub record LeadsIn {T P A : Type 0} (tables : Tables T (SlotState P A) P) (b : Barrier T (SlotState P A) P) : Type 0 where
  pub leads : LeadsAt tables b
  pub hand : HoldsEach IsEmpty (slots_of tables.round.init) b.seat.me.1

-- n pieces at a leader's hand were published, and after their round it has taken all slots out, with their answers
pub record PlayedPieces {P A : Type 0} (answers : P → A → Type 0) (slots n : ℕ) (old new : Me (SlotState P A) (View P)) : Type 0 where
  pub shown : Me (SlotState P A) (View P)
  pub worked : Me (SlotState P A) (View P)
  pub ended : Me (SlotState P A) (View P)
  pub found : ℕ
  pub published : PublishedPieces answers n old shown
  pub on : Onward shown.0 worked.0
  pub none : worked.1 ≡ []
  pub next : InNext worked ended
  pub taken : TakenOut (pieces answers) slots found ended new
  pub answered : AreAnswered answers n worked.0.board new.1
