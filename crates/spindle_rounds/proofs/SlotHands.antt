-- The slots in their leader's hand: what the turns of a loop leave of them, and what its round does.
use Rattle.std.proofs.Common.{◌≡◌, ◌⊎◌, inl, inr, ⊎_elim, ℕ, zero, suc, ◌+◌, ◌-◌, ◌<◌, ◌≤◌, true, List, [], ◌∷◌, ◌++◌, length, length-append}
use Rattle.std.proofs.Common.{append_assoc, append-nil, sym, refl, ap, ◌∙◌, subst, arith}
use mathlib.Core.Logic.{dite}
use native.Mathlib.Decide.{dec_le}
use mathlib.Core.Option.{some, some-injective}
use lib.ListN.{get_elem?}
use Rattle.atomic_table.specs.Table.{Me}
use Rattle.spindle_rounds.specs.declared.round_table.view.Spot.{Spot}
use Rattle.spindle_rounds.specs.declared.round_table.view.Spot.TheVariants.{Vacant, Out, Filled}
use Rattle.spindle_rounds.specs.declared.round_table.view.View.{View}
use Rattle.spindle_rounds.specs.declared.round_table.pieces.SlotState.{SlotState}
use Rattle.spindle_rounds.specs.declared.round_table.pieces.SlotState.TheVariants.{Done}
use Rattle.spindle_rounds.specs.RoundSlots.{Discipline, spot_at}
use Rattle.spindle_rounds.specs.RoundSteps.{round_of}
use Rattle.spindle_rounds.specs.RoundConditions.{IsDone}
use Rattle.spindle_rounds.specs.RoundViews.{Onward, published_of}
use Rattle.spindle_rounds.specs.Passing.{InNext}
use Rattle.spindle_rounds.specs.Working.{IsIdle, HasPassed, PlayedRound}
use Rattle.spindle_rounds.specs.SlotSteps.{numbered, board_back, TakenOut}
use Rattle.spindle_rounds.specs.RoundPieces.{pieces, spot_with, AreAnswered, IsUnrun}
use Rattle.spindle_rounds.specs.PieceRounds.{PublishedPieces, AwaitsAnswers}
use Rattle.spindle_rounds.specs.SlotLoops.{IsEmpty, IsPiece, HoldsEach, Turning}
use Rattle.spindle_rounds.specs.SlotHands.{turned_by, AllOut, AllVacant, HoldsAll, WaitsAs, LaidOut, AnsweredAs}
use Rattle.spindle_rounds.specs.SpotPlaces.{spot_else}
use Rattle.spindle_rounds.proofs.Lists.{in_list}
use Rattle.spindle_rounds.proofs.PieceClients.{numbered_at, there, turned_on, back_at, piece_back, published_last, all_out}
use Rattle.spindle_rounds.proofs.SlotLoops.{back_on}

module _ {X : Type 0} where
  -- the slots that a loop hasn't come to are turned behind those that it has
  turns_end : (old new : List X) (i : ℕ) → length new ≡ i → turned_by (length old) (numbered i old (numbered 0 new [])) ≡ numbered 0 (new ++ old) []
  turns_end [] new i is = ap (λ (l : List X). numbered 0 l []) (sym (append-nil new))
  turns_end (y ∷ old) new i is = ap (turned_by (length old)) (turned_on i old new y is)
      ∙ (turns_end old (new ++ y ∷ []) (i + 1) (let a = length-append new (y ∷ []) in let b = is in omega arith)
      ∙ ap (λ (l : List X). numbered 0 l []) (append_assoc new (y ∷ []) old))

  -- an element of two lists is in the first, or in the second
  in_either : (new old : List X) (k : ℕ) (y : X) → get_elem? (new ++ old) k ≡ some y → (get_elem? new k ≡ some y) ⊎
      ((j : ℕ) × (k ≡ length new + j) × (get_elem? old j ≡ some y))
  in_either [] old k y e = inr (k, (omega arith), e)
  in_either (x ∷ new) old zero y e = inl e
  in_either (x ∷ new) old (suc k) y e = ⊎_elim inl
      (λ (t : (j : ℕ) × (k ≡ length new + j) × (get_elem? old j ≡ some y)). inr (t.0, (let s = t.1 in omega arith), t.2)) (in_either new old k y e)

  -- after these turns all slots are at the hand in their order
  pub settled : (P Q R : ℕ → X → Type 0) (n i : ℕ) (c : List (ℕ × X)) → Turning P Q n i c → ((k : ℕ) (y : X) → i ≤ k → P k y → R k y)
      → ((k : ℕ) (y : X) → k < i → Q k y → R k y) → HoldsEach R n (turned_by (n - i) c)
  settled P Q R n i c t from_old from_new = let left = t.left in let done = t.done in let many : n - i ≡ length t.old = omega arith in record {
    ys = t.new ++ t.old;
    many = (let a = length-append t.new t.old in omega arith);
    hand = ap (λ (m : ℕ). turned_by m c) many ∙ (ap (turned_by (length t.old)) t.hand ∙ turns_end t.old t.new i t.done);
    each = λ k y e. ⊎_elim (λ (a : get_elem? t.new k ≡ some y). from_new k y (let lt = in_list t.new k y a in omega arith) (t.new_are k y a))
        (λ (a : (j : ℕ) × (k ≡ length t.new + j) × (get_elem? t.old j ≡ some y)). let at : i + a.0 ≡ k = (let s = a.1 in omega arith) in
        subst (λ (j : ℕ). R j y) at (from_old (i + a.0) y (omega arith) (t.old_are a.0 y a.2))) (in_either t.new t.old k y e);
  }

module _ {P : Type 0} where
  pub same_piece : (b : List (ℕ × Spot P)) (k q r : ℕ) (x z : P) → spot_at b k ≡ Filled q x → spot_at b k ≡ Filled r z → x ≡ z
  same_piece b k q r x z e f = cc

module _ {P A : Type 0} (answers : P → A → Type 0) where
  abbrev Slot : Type 0
  Slot = SlotState P A

  abbrev Board : Type 0
  Board = List (ℕ × Spot P)

  abbrev back : ℕ → ℕ → List Slot → Board → Board
  back q i ys b = board_back (pieces answers) q (numbered i ys []) b

  -- what stands behind them is as it was
  back_after : (q i j : ℕ) (ys : List Slot) (b : Board) → i + length ys ≤ j → spot_at (back q i ys b) j ≡ spot_at b j
  back_after q i j [] b le = refl
  back_after q i j (y ∷ ys) b le = back_after q (i + 1) j ys ((i, spot_with answers q y) ∷ b) (omega arith) ∙ spot_else b i j (spot_with answers q y)
      (λ e. omega arith)

  -- slots that were vacant before the leader took them out were empty
  pub holds_all : (slots found : ℕ) (m w : Me Slot (View P)) → TakenOut (pieces answers) slots found m w → m.1 ≡ [] → AllVacant slots m.0.board
      → HoldsAll slots w
  holds_all slots found m w t none vacant = let ys : List Slot = t.0 in let many = t.1 in record {
    hand = record {
      ys = ys;
      many = many;
      hand = ap (λ (z : Me Slot (View P)). z.1) t.2 ∙ ap (numbered 0 ys) none;
      each = λ k y e. let lt = in_list ys k y e in subst (λ (p : Spot P). (pieces answers).found p y) (vacant k (omega arith)) (t.3 k y e).0;
    };
    out = λ k lt. ap (λ (z : Me Slot (View P)). spot_at z.0.board k) t.2 ∙ all_out slots k m.0.board lt;
  }

  module _ (Is : ℕ → P → Type 0) (slots n : ℕ) where
    -- the board once the pieces are back and published
    pub laid_out : (m w : Me Slot (View P)) → Turning IsEmpty (WaitsAs Is) slots n m.1 → PublishedPieces answers n m w
        → LaidOut Is slots n (round_of m.0.standing) w.0.board
    laid_out m w t p = let q : ℕ = round_of m.0.standing in let b : Board = m.0.board in let left = t.left in let done = t.done in
        let below : Board = back q n t.old b in
        let is : w.0.board ≡ back q 0 t.new below = p.board ∙ (ap (λ (c : List (ℕ × Slot)). board_back (pieces answers) q c b) t.hand
        ∙ back_on answers q n t.old (numbered 0 t.new []) b) in record {
          filled = λ k lt. let y = there t.new k (omega arith) in let z = t.new_are k y.0 y.1 in (
            z.0,
            ap (λ (l : Board). spot_at l k) is ∙ piece_back answers q k t.new below z.0 (y.1 ∙ ap (λ (s : Slot). some s) z.1),
            z.2,
          );
          vacant = λ k le lt. let j : ℕ = k - n in let y = there t.old j (omega arith) in let at : n + j ≡ k = omega arith in
              ap (λ (l : Board). spot_at l k) is ∙ (back_after q 0 k t.new below (omega arith)
              ∙ (subst (λ (i : ℕ). spot_at below i ≡ spot_with answers q y.0) at (back_at answers q n j t.old b y.0 y.1)
              ∙ ap (spot_with answers q) (t.old_are j y.0 y.1)));
        }

    -- what the leader has to have done before it waits for the answers
    pub awaits : (m w u : Me Slot (View P)) → LaidOut Is slots n (round_of m.0.standing) w.0.board → PublishedPieces answers n m w → Onward w.0 u.0
        → u.0.leader ≡ true → IsIdle u.0 → IsDone u.0 → AwaitsAnswers answers slots n u
    awaits m w u l p on leads idle done = let r : ℕ = round_of m.0.standing in let same = on.board in (
      leads,
      (let inside = p.on.0.inside in (inside.0, on.standing ∙ inside.1, idle.0, idle.1)),
      done,
      λ k lt. dite (dec_le n k) (λ le out. let v : Vacant ≡ Out = sym (l.vacant k le lt) ∙ (sym (ap (λ (b : Board). spot_at b k) same) ∙ out) in absurd cc)
          (λ no out. let f = l.filled k (omega arith) in let v : Filled r f.0 ≡ Out = sym f.1 ∙ (sym (ap (λ (b : Board). spot_at b k) same) ∙ out) in
          absurd cc),
      (
        r,
        published_last u.0 r n (published_of m.0.trail) (on.published ∙ p.published),
        λ k lt. let f = l.filled k lt in (f.0, ap (λ (b : Board). spot_at b k) same ∙ f.1),
      ),
    )

    -- after the round each slot holds an answer to its piece, or is empty
    pub answered_as : (r found : ℕ) (m w : Me Slot (View P)) → TakenOut (pieces answers) slots found m w → m.1 ≡ [] → n ≤ slots → LaidOut Is slots n r m.0.board
        → AreAnswered answers n m.0.board w.1 → HoldsEach (AnsweredAs Is answers n) slots w.1
    answered_as r found m w t none few l a = let ys : List Slot = t.0 in let many = t.1 in
        let hand : w.1 ≡ numbered 0 ys [] = ap (λ (z : Me Slot (View P)). z.1) t.2 ∙ ap (numbered 0 ys) none in record {
          ys = ys;
          many = many;
          hand = hand;
          each = λ k y e. let lt = in_list ys k y e in record {
            done = λ below. let d = a k below in let f = l.filled k below in let x : P = d.1 in let o : A = d.2 in let from : 0 + k ≡ k = omega arith in
                let at : some (k, Done o) ≡ some (k, y) = sym d.4 ∙ (ap (λ (c : List (ℕ × Slot)). get_elem? c k) hand ∙ (numbered_at ys 0 k [] y e
                ∙ ap (λ (j : ℕ). let z : ℕ × Slot = (j, y) in some z) from)) in (
                  x,
                  o,
                  sym (ap (λ (z : ℕ × Slot). z.1) (some-injective (k, Done o) (k, y) at)),
                  d.5,
                  subst (Is k) (same_piece m.0.board k r d.0 f.0 x f.1 d.3) f.2,
                );
            empty = λ le. subst (λ (p : Spot P). (pieces answers).found p y) (l.vacant k le (omega arith)) (t.3 k y e).0;
          };
        }

    -- and all are out
    pub still_out : (found : ℕ) (m w : Me Slot (View P)) → TakenOut (pieces answers) slots found m w → AllOut slots w.0.board
    still_out found m w t k lt = ap (λ (z : Me Slot (View P)). spot_at z.0.board k) t.2 ∙ all_out slots k m.0.board lt

module _ {X : Type 0} where
  -- what is said of the slots may be less
  pub turning_less : (P P' Q Q' : ℕ → X → Type 0) (n i : ℕ) (c : List (ℕ × X)) → Turning P Q n i c → ((k : ℕ) (y : X) → P k y → P' k y)
      → ((k : ℕ) (y : X) → Q k y → Q' k y) → Turning P' Q' n i c
  turning_less P P' Q Q' n i c t f h = record {
    old = t.old;
    new = t.new;
    hand = t.hand;
    left = t.left;
    done = t.done;
    old_are = λ k y e. f (i + k) y (t.old_are k y e);
    new_are = λ k y e. h k y (t.new_are k y e);
  }

module _ {P A : Type 0} (answers : P → A → Type 0) (Is : ℕ → P → Type 0) where
  -- empty slots and pieces may be published
  pub may_publish : (slots n : ℕ) (c : List (ℕ × SlotState P A)) → Turning IsEmpty (WaitsAs Is) slots n c → Turning (λ k y. IsUnrun answers y) IsPiece slots n c
  may_publish slots n c t = turning_less IsEmpty (λ k y. IsUnrun answers y) (WaitsAs Is) IsPiece slots n c t
      (λ k y e. subst (IsUnrun answers) (sym e) tt) (λ k y w. (w.0, w.1))

-- what taking the slots out leaves of the leader after its round
pub passed_taking : {S N : Type 0} (D : Discipline S N) (slots found : ℕ) (v : View N) (m w : Me S (View N)) → TakenOut D slots found m w → HasPassed v m.0
    → HasPassed v w.0
passed_taking D slots found v m w t h = rw t.2 (search h)

pub played_taking : {S N : Type 0} (D : Discipline S N) (slots found n : ℕ) (v : View N) (m w : Me S (View N)) → TakenOut D slots found m w
    → PlayedRound n v m.0
    → PlayedRound n v w.0
played_taking D slots found n v m w t h = rw t.2 (h.0, h.1)

module _ {P A : Type 0} (answers : P → A → Type 0) (Is : ℕ → P → Type 0) (slots n : ℕ) where
  -- the round has ended since the leader worked in it, and it has taken the slots out
  pub collected : (r found : ℕ) (w u e x : Me (SlotState P A) (View P)) → LaidOut Is slots n r w.0.board → Onward w.0 u.0 → u.1 ≡ [] → InNext u e
      → TakenOut (pieces answers) slots found e x → n ≤ slots → AreAnswered answers n u.0.board x.1 → HoldsEach (AnsweredAs Is answers n) slots x.1
  collected r found w u e x l on none next t few a = let same : e.0.board ≡ u.0.board = ap (λ (z : Me (SlotState P A) (View P)). z.0.board) next.seat in
      answered_as answers Is slots n r found e x t (ap (λ (z : Me (SlotState P A) (View P)). z.1) next.seat ∙ none) few
      (subst (LaidOut Is slots n r) (sym (same ∙ on.board)) l) (subst (λ (b : List (ℕ × Spot P)). AreAnswered answers n b x.1) (sym same) a)
