-- A round over pieces, as its leader plays it:
-- the pieces go back and are published; at its end their answers come out.
use Rattle.std.specs.Prelude.{◌≡◌, ◌≢◌, ℕ, ◌<◌, ◌∷◌, [], true, false}
use Rattle.atomic_table.specs.Table.{Me}
use Rattle.spindle_rounds.specs.declared.round_table.view.Spot.TheVariants.{Out}
use Rattle.spindle_rounds.specs.declared.round_table.view.View.{View}
use Rattle.spindle_rounds.specs.declared.round_table.pieces.SlotState.{SlotState}
use Rattle.spindle_rounds.specs.RoundSlots.{spot_at}
use Rattle.spindle_rounds.specs.RoundShown.{Showed}
use Rattle.spindle_rounds.specs.RoundSteps.{round_of}
use Rattle.spindle_rounds.specs.RoundConditions.{IsFreeInside, IsDone}
use Rattle.spindle_rounds.specs.RoundViews.{SharesAsBefore, published_of}
use Rattle.spindle_rounds.specs.Working.{OnPublished}
use Rattle.spindle_rounds.specs.SlotSteps.{board_back, HasPublished}
use Rattle.spindle_rounds.specs.RoundPieces.{pieces, AreFilled}

module _ {P A : Type 0} (answers : P → A → Type 0) where
  -- what a leader's seat holds
  abbrev pub Hand : Type 0
  Hand = Me (SlotState P A) (View P)

  -- the slots are back, and n jobs are published
  pub record PublishedPieces (n : ℕ) (m w : Hand) : Type 0 where
    pub hand : w.1 ≡ []
    pub board : w.0.board ≡ board_back (pieces answers) (round_of m.0.standing) m.1 m.0.board
    pub on : OnPublished n false w.0
    pub seat : (w.0.standing ≡ m.0.standing) × (w.0.leader ≡ m.0.leader)
        × (w.0.threads ≡ m.0.threads)
    pub same : SharesAsBefore m.0 w.0 × (w.0.claim ≡ m.0.claim)
    pub published : published_of w.0.trail
        ≡ Showed (round_of m.0.standing) n false ∷ published_of m.0.trail

  -- the leader has published n jobs with their pieces, holds none of so many slots, and has nothing
  -- more to do in the round
  abbrev pub AwaitsAnswers : (slots n : ℕ) → Hand → Type 0
  AwaitsAnswers slots n m = (m.0.leader ≡ true) × IsFreeInside m.0 × IsDone m.0
      × ((k : ℕ) → k < slots → spot_at m.0.board k ≢ Out)
      × ((r : ℕ) × HasPublished m.0 r n × AreFilled answers r n m.0.board)
