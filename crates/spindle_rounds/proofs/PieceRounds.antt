-- A leader's round over pieces: what is so once they are published, and once their round has ended.
use Rattle.std.proofs.Common.{◌≡◌, ◌≢◌, ℕ, ◌+◌, false, ◌∷◌, [], List, refl, sym, ap, ◌∙◌, subst}
use Rattle.spindle_rounds.specs.declared.round_table.view.Standing.{Standing}
use Rattle.spindle_rounds.specs.declared.round_table.view.Standing.TheVariants.{Inside}
use Rattle.spindle_rounds.specs.declared.round_table.view.Known.{Known}
use Rattle.spindle_rounds.specs.declared.round_table.view.Spot.{Spot}
use Rattle.spindle_rounds.specs.declared.round_table.view.Spot.TheVariants.{Out}
use Rattle.spindle_rounds.specs.declared.round_table.pieces.SlotState.{SlotState}
use Rattle.spindle_rounds.specs.RoundSlots.{spot_at}
use Rattle.spindle_rounds.specs.RoundShown.{Deed, Showed}
use Rattle.spindle_rounds.specs.RoundSteps.{round_of, unknown, publishing}
use Rattle.spindle_rounds.specs.RoundConditions.{MayFill, MayPublish, MayTakeOut}
use Rattle.spindle_rounds.specs.RoundViews.{shown_of, published_of}
use Rattle.spindle_rounds.specs.RoundAnswers.{FilledBy}
use Rattle.spindle_rounds.specs.Passing.{InNext}
use Rattle.spindle_rounds.specs.SlotSteps.{board_back, giving_back, IsDeed, HasPublished}
use Rattle.spindle_rounds.specs.RoundPieces.{pieces, AreFilled, AreAnswered}
use Rattle.spindle_rounds.specs.PieceRounds.{Hand, PublishedPieces, AwaitsAnswers}
use Rattle.spindle_rounds.proofs.SlotLoops.{HoldsPieces}
use Rattle.spindle_rounds.proofs.RoundClients.{filled_round, round_published}
use Rattle.spindle_rounds.proofs.BarrierClients.{moved_standing, moved_known, moved_deeds}

module _ {P A : Type 0} (answers : P → A → Type 0) where
  abbrev HandOf : Type 0
  HandOf = Hand answers

  module _ (n : ℕ) (m g : HandOf) (h : HoldsPieces answers n m) (found : ℕ) (gave : g ≡ (giving_back (pieces answers) found m.1 m.0, [])) where
    -- the slots are back, and the words of the round may be stored
    pub may_fill : MayFill g.0
    may_fill = subst (λ (z : HandOf). MayFill z.0) (sym gave) ((h.0, h.1), h.2)

    stands : g.0.standing ≡ Inside h.0
    stands = ap (λ (z : HandOf). z.0.standing) gave ∙ h.1

    board : g.0.board ≡ board_back (pieces answers) (round_of m.0.standing) m.1 m.0.board
    board = ap (λ (z : HandOf). z.0.board) gave

    filled : AreFilled answers h.0 n g.0.board
    filled = subst (AreFilled answers h.0 n) (sym (board ∙ ap (λ (r : ℕ). board_back (pieces answers) r m.1 m.0.board) (ap round_of h.1))) h.4

    module _ (t : ℕ) (f : HandOf) (stored : FilledBy t n g.0 f.0) where
      pub may_publish : MayPublish (pieces answers) t n f.0
      may_publish = (filled_round (pieces answers) t n h.0 g.0 f.0 stands may_fill.1 filled stored).0

      pub now_published : (w : HandOf) → f.1 ≡ g.1 → w ≡ (publishing false n f.0, f.1) → PublishedPieces answers n m w
      now_published w same step = let r = filled_round (pieces answers) t n h.0 g.0 f.0 stands may_fill.1 filled stored in
          let p = round_published f w h.0 n false r.4 step in record {
            hand = rw (step, same, gave);
            board = rw (step, stored.0, gave);
            on = (p.0, λ _. p.1);
            seat = rw (step, stored.0, gave) (refl, refl, refl);
            same = rw (step, stored.0, gave) ((refl, refl), refl);
            published = let q : h.0 ≡ round_of m.0.standing = sym (ap round_of h.1) in
                p.4 ∙ ((λ i. Showed (q i) n false ∷ shown_of (r.1 i)) ∙ ap (λ (l : List Deed). Showed (round_of m.0.standing) n false ∷ l)
                (ap (λ (z : HandOf). published_of z.0.trail) gave));
          }

  module _ (slots n : ℕ) (m u : HandOf) (a : AwaitsAnswers answers slots n m) (next : InNext m u) where
    same_board : u.0.board ≡ m.0.board
    same_board = ap (λ (z : HandOf). z.0.board) next.seat

    -- the leader is inside the next round, where it has published nothing
    pub may_take : MayTakeOut (pieces answers) slots u.0
    may_take = let st : Standing = Inside (round_of m.0.standing + 1) in let k : Known = unknown m.0.leader false in (
      ((round_of m.0.standing + 1, moved_standing st k m u next), ap (λ (z : Known). z.unpublished) (moved_known st k m u next) ∙ a.0),
      λ j lt. subst (λ (b : List (ℕ × Spot P)). spot_at b j ≢ Out) (sym same_board) (a.3 j lt),
    )

    pub still_published : (r : ℕ) × HasPublished u.0 r n × AreFilled answers r n u.0.board
    still_published = let st : Standing = Inside (round_of m.0.standing + 1) in let k : Known = unknown m.0.leader false in
        (a.4.0, subst (IsDeed (Showed a.4.0 n false)) (sym (moved_deeds st k m u next)) a.4.1, subst (AreFilled answers a.4.0 n) (sym same_board) a.4.2)

    -- what it then finds answers the pieces that it put before
    pub answered_then : (c : List (ℕ × SlotState P A)) → AreAnswered answers n u.0.board c → AreAnswered answers n m.0.board c
    answered_then c e = subst (λ (b : List (ℕ × Spot P)). AreAnswered answers n b c) same_board e
