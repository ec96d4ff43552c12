-- What the calls of a round leave a party, for the loops of those who call them: from a call's clause to what the next call asks,
-- in the words of `specs/RoundViews.antt` and `specs/RoundConditions.antt`.
--   published                        number_learned: AtWork; where the word is plain, no stop was seen
--   fill                             filled_round: MayPublish
--   publish, publish_try             round_published: AtWork, and one Showed more in the trail
--   try_claim_own, try_claim_rest    own_claimed, remainder_claimed: AfterClaim; remainder_nothing
--   try_steal                        stolen: AfterSteal, a number and a share, or every range listed as empty
--   next_of_share                    share_next, at Some: MayFinish, IsItsShare; at None no step was made
--   stop, stopped, put_back, left    stop_done, stop_seen, share_put, left_seen
--   before arrive                    all_empty: IsDone; after a stop `inr (inl seen)`
-- The invariant of a loop: the seat's `table_id` and `id` are as at the function's entry, Onward from there (`onward_then` of
-- RoundOnward chains it), and MayClaim, which claims_again gives after a finish, or no claim and IsItsShare. With slots the lemmas are
-- the same; what a begin did to them is `D.took c m.1 x w.1` in the call's answer.
use Rattle.std.proofs.Common.{◌≡◌, ◌≢◌, inr, ℕ, ◌+◌, ◌%◌, ◌<◌, ◌≤◌, Bool, true, false, ◌∷◌, get_or, sym, refl, ap, ◌∙◌, subst, arith, Some, None}
use Rattle.std.proofs.Common.{if◌then◌else◌, nat_lt}
use mathlib.Core.Logic.{dite}
use native.Mathlib.Decide.{ℕ_discrete}
use Rattle.atomic_table.specs.Table.{Me}
use Rattle.spindle_rounds.specs.declared.round_table.view.Standing.TheVariants.{Inside}
use Rattle.spindle_rounds.specs.declared.round_table.view.View.{View}
use Rattle.spindle_rounds.specs.declared.round.claim.Claim.{Claim}
use Rattle.spindle_rounds.specs.declared.round.claim.Claim.TheVariants as claim
use Rattle.spindle_rounds.specs.declared.round.claim.Steal.{Steal}
use Rattle.spindle_rounds.specs.declared.round.claim.Steal.TheVariants as steal
use Rattle.spindle_rounds.specs.declared.round.stopping.PutBack.{PutBack}
use Rattle.spindle_rounds.specs.declared.round.stopping.PutBack.TheVariants as back
use Rattle.spindle_rounds.specs.Spans.{Span}
use Rattle.spindle_rounds.specs.RoundSlots.{Discipline}
use Rattle.spindle_rounds.specs.RoundShown.{Showed, deeds_of, IsListed}
use Rattle.spindle_rounds.specs.Words.{remainder_at, range_at, high_half, most_jobs, range_word}
use Rattle.spindle_rounds.specs.RoundSteps.{round_of, learning, publishing, searching, reading_remainder, recalling, finishing, stopping}
use Rattle.spindle_rounds.specs.RoundConditions.{MayPublish, MayClaim, MayBegin, MayFinish, MayPutBack, IsItsShare, IsDone}
use Rattle.spindle_rounds.specs.RoundAnswers.{searching_all, OwnClaimedBy, StolenBy, RemainderClaimedBy, SharedBy, SeenBy, PutBy, FilledBy}
use Rattle.spindle_rounds.specs.Leftovers.{LeftOverBy}
use Rattle.spindle_rounds.specs.PartyWork.{HasFinished}
use Rattle.spindle_rounds.specs.RoundViews.{published_of, AtWork, Onward, SeesAsBefore, StopsAsBefore, SharesAsBefore, AfterClaim, AfterSteal}
use Rattle.spindle_rounds.proofs.RoundWords.{by_less, by_equal}
use Rattle.spindle_rounds.proofs.RoundSearch.{may_still}
use Rattle.spindle_rounds.proofs.RoundFilled.{filled_stands, filled_quiet}
use Rattle.spindle_rounds.proofs.RoundOnward.{onward_then, searched_on, remainder_on, remainder_empty, all_searched_on, all_listed, missed_on, began_on}
use Rattle.spindle_rounds.proofs.RoundOnward.{stole_on, shared_on, recalled_on, finished_on, stopped_on, saw_on, put_on, found_on, finished_all}

-- Claims.

module _ {S N : Type 0} (D : Discipline S N) (m w : Me S (View N)) (may : MayClaim m.0) where
  abbrev inside : (q : ℕ) × (m.0.standing ≡ Inside q)
  inside = (may.0.0, may.0.1)

  pub own_claimed : (i : ℕ) (r : Claim) → OwnClaimedBy D i r m w → AfterClaim r m.0 w.0
  own_claimed i (claim.Job c) a = rw a.2 (
    onward_then m.0 (searching i a.0 m.0) _ (searched_on i a.0 m.0) (began_on (range_at i) _ _ _ a.1 _),
    (refl, refl),
    (refl, refl),
    (inside, ap (λ (k : ℕ). Some k) (sym a.4)),
  )
  own_claimed i claim.Nothing a = rw a.1 (searched_on i a.0 m.0, (refl, refl), (refl, refl), may)
  own_claimed i claim.Again a = rw a.2
      (onward_then m.0 (searching i a.0 m.0) _ (searched_on i a.0 m.0) (missed_on (range_at i) a.1 _), (refl, refl), (refl, refl), may)

  pub remainder_claimed : (n : ℕ) (r : Claim) → RemainderClaimedBy D n r m w → AfterClaim r m.0 w.0
  remainder_claimed n (claim.Job c) a = let v : View N = reading_remainder a.0 m.0 in rw a.2 (
    onward_then m.0 v _ (remainder_on a.0 m.0) (onward_then v (recalling n v) _ (recalled_on n v) (began_on remainder_at _ _ _ a.1 _)),
    (refl, refl),
    (refl, refl),
    (inside, ap (λ (k : ℕ). Some k) (sym a.4)),
  )
  remainder_claimed n claim.Nothing a = rw a.1 (remainder_on a.0 m.0, (refl, refl), (refl, refl), may)
  remainder_claimed n claim.Again a = let v : View N = reading_remainder a.0 m.0 in rw a.2 (
    onward_then m.0 v _ (remainder_on a.0 m.0) (onward_then v (recalling n v) _ (recalled_on n v) (missed_on remainder_at a.1 _)),
    (refl, refl),
    (refl, refl),
    may,
  )

  -- the remainder was read as empty
  pub remainder_nothing : (n : ℕ) → RemainderClaimedBy D n claim.Nothing m w → IsListed w.0.threads w.0.known.emptied
  remainder_nothing n a = rw a.1 (remainder_empty may.1.0 a.0 m.0 may.1.1 a.2)

  pub stolen : (t : ℕ) (r : Steal) → StolenBy D t r m w → AfterSteal t r m.0 w.0
  stolen t (steal.Job c share) a = let b = all_searched_on 0 a.0 m.0 in rw a.5 (
    onward_then m.0 (searching_all 0 a.0 m.0) _ b.0 (stole_on (range_at a.1) (get_or a.0 a.1 0) a.2 _),
    b.1,
    ((may.0.0, b.0.standing ∙ may.0.1), ap (λ (k : ℕ). Some k) (sym a.7)),
    (a.8 ∙ ap (λ (k : ℕ). k + 1) a.7, a.9),
  )
  stolen t steal.Nothing a = let b = all_searched_on 0 a.0 m.0 in rw a.3 (
    b.0,
    b.1,
    b.2,
    may_still 0 a.0 m.0 may,
    (λ i lt. let len = a.1 in let same : 0 + i ≡ i = omega arith in subst (λ (j : ℕ). IsListed j (searching_all 0 a.0 m.0).known.emptied) same
        (all_listed may.1.0 0 a.0 m.0 may.1.1 (λ j l. a.2 j (omega arith)) i (omega arith))),
  )
  stolen t steal.Again a = let b = all_searched_on 0 a.0 m.0 in rw a.5
      (onward_then m.0 (searching_all 0 a.0 m.0) _ b.0 (missed_on (range_at a.1) a.2 _), b.1, b.2, may_still 0 a.0 m.0 may)

-- A number of a share has begun, and the share that is left is the seat's.
pub share_next : {S N : Type 0} (D : Discipline S N) (m w : Me S (View N)) (i k : ℕ) (share left : Span) → MayBegin m.0 → IsItsShare share m.0
    → SharedBy D i share (Some k) left m w → Onward m.0 w.0 × SeesAsBefore m.0 w.0 × MayFinish k w.0 × IsItsShare left w.0
share_next D m w i k share left may own a = let word : ℕ = range_word (k + 1) share.to in let is : k ≡ m.0.from = a.3 ∙ own.0 in
    rw a.1 (shared_on (range_at i) word a.0 m.0, (refl, refl), (may.0, ap (λ (j : ℕ). Some j) (sym is)), (a.5 ∙ ap (λ (j : ℕ). j + 1) is, a.6 ∙ own.1))

-- A number has finished: the seat may begin the next of its share, and share and stop are as before. After the last one it knows that nothing is left.
pub finish_done : {N : Type 0} (found : ℕ) (v w : View N) → w ≡ finishing found v → HasFinished found v w
finish_done found v w a = rw a
    (finished_on found v, (λ _. (refl, refl)), (refl, refl), refl, λ last i le. finished_all v.known.number (found + 1) v.threads v.known.emptied last i le)

-- The stop was seen, or not.
pub stop_seen : {S N : Type 0} (m w : Me S (View N)) (stopped : Bool) → SeenBy stopped m w → Onward m.0 w.0 × (w.0.known.seen_stop ≡ stopped)
    × SharesAsBefore m.0 w.0 × (w.0.claim ≡ m.0.claim) × StopsAsBefore m.0 w.0
stop_seen m w true a = rw a (saw_on 1 m.0, refl, (refl, refl), refl, refl)
stop_seen m w false a = rw a (saw_on 0 m.0, refl, (refl, refl), refl, refl)

-- Who has stopped the round still has its claim, and has seen the stop.
pub stop_done : {S N : Type 0} (m w : Me S (View N)) → w ≡ (stopping 1 m.0, m.1) → Onward m.0 w.0 × (w.0.known.seen_stop ≡ true) × SharesAsBefore m.0 w.0 ×
    (w.0.claim ≡ m.0.claim)
stop_done m w a = rw a (stopped_on 1 m.0, refl, (refl, refl), refl)

-- A share is back, or else the seat may try again.
pub share_put : {S N : Type 0} (m w : Me S (View N)) (i : ℕ) (r : PutBack) (share left : Span) → MayPutBack m.0 → IsItsShare share m.0
    → PutBy i r share left m w → Onward m.0 w.0 × SeesAsBefore m.0 w.0 × MayPutBack w.0 × IsItsShare left w.0 × (r ≡ back.Put → left.from ≡ left.to)
share_put m w i back.Put share left may own a = rw a.1 (
  onward_then m.0 (searching i a.0 m.0) _ (searched_on i a.0 m.0) (put_on (range_at i) a.0 _),
  (refl, refl),
  may,
  (a.3 ∙ own.1, a.4 ∙ own.1),
  λ _. a.3 ∙ sym a.4,
)
share_put m w i back.Occupied share left may own a = rw a.1
    (searched_on i a.0 m.0, (refl, refl), may, subst (λ (z : Span). IsItsShare z m.0) (sym a.3) own, λ e. absurd cc)
share_put m w i back.Again share left may own a = rw a.2 (
  onward_then m.0 (searching i a.0 m.0) _ (searched_on i a.0 m.0) (missed_on (range_at i) a.1 _),
  (refl, refl),
  may,
  subst (λ (z : Span). IsItsShare z m.0) (sym a.4) own,
  λ e. absurd cc,
)

-- What is left was read.
pub left_seen : {S N : Type 0} (m w : Me S (View N)) (t i found : ℕ) → i ≤ t → LeftOverBy t i found m w → Onward m.0 w.0 × SeesAsBefore m.0 w.0
    × SharesAsBefore m.0 w.0 × (w.0.claim ≡ m.0.claim)
left_seen m w t i found le a = dite (ℕ_discrete i t) (λ here. rw (a.1 here) (
  onward_then m.0 (reading_remainder found m.0) _ (remainder_on found m.0) (found_on remainder_at found _),
  (refl, refl),
  (refl, refl),
  refl,
)) (λ apart. rw (a.0 (omega arith)) (
  onward_then m.0 (searching i found m.0) _ (searched_on i found m.0) (found_on (range_at i) found _),
  (refl, refl),
  (refl, refl),
  refl,
))

-- Arriving.

-- where all ranges and the remainder were read as empty, nothing is left
pub all_empty : {N : Type 0} (n : ℕ) (b : Bool) (v : View N) → AtWork n b v → ((i : ℕ) → i < v.threads → IsListed i v.known.emptied)
    → IsListed v.threads v.known.emptied → IsDone v
all_empty n b v a ranges rest = inr (inr (inr (
  n,
  a.number,
  λ i le. dite (ℕ_discrete i v.threads) (λ e. subst (λ (j : ℕ). IsListed j v.known.emptied) (sym e) rest) (λ apart. ranges i (omega arith)),
)))

-- The leader.

-- after `fill` the same number may be published, and nothing was
pub filled_round : {S N : Type 0} (D : Discipline S N) (t n q : ℕ) (v w : View N) → v.standing ≡ Inside q → v.known.unpublished ≡ true
    → D.may_publish q n v.board → FilledBy t n v w → MayPublish D t n w × (deeds_of w.trail ≡ deeds_of v.trail) × (w.claim ≡ v.claim)
    × SharesAsBefore v w × (w.standing ≡ Inside q)
filled_round D t n q v w inside_q alone may f = rw f.0
    ((q, inside_q, alone, filled_stands t n v.known.stored (3 + t), may), filled_quiet t n v.trail (3 + t), refl, (refl, refl), inside_q)

-- a published round is the leader's work, and stands in its trail
pub round_published : {S N : Type 0} (m w : Me S (View N)) (q n : ℕ) (b : Bool) → m.0.standing ≡ Inside q → w ≡ (publishing b n m.0, m.1) → AtWork n b w.0 ×
    (w.0.known.seen_stop ≡ false) × (w.0.claim ≡ m.0.claim) × SharesAsBefore m.0 w.0 × (published_of w.0.trail ≡ Showed q n b ∷ published_of m.0.trail)
round_published m w q n b inside_q a = rw a (
  record { inside = (q, inside_q); number = refl; may_stop = refl },
  refl,
  refl,
  (refl, refl),
  ap (λ (z : ℕ). Showed z n b ∷ published_of m.0.trail) (ap round_of inside_q),
)

-- who may claim may claim again, once what it has begun since is finished and its share is empty
pub claims_again : {N : Type 0} (v w : View N) → MayClaim v → Onward v w → SeesAsBefore v w → w.to ≤ w.from → w.claim ≡ None → MayClaim w
claims_again v w may on same empty idle = ((may.0.0, on.standing ∙ may.0.1, idle, empty), (may.1.0, on.number ∙ may.1.1), same.0 ∙ may.2)

-- the published word tells a member the number
pub number_learned : {S N : Type 0} (m w : Me S (View N)) (q found : ℕ) → m.0.standing ≡ Inside q → w ≡ (learning found m.0, m.1) → found ≢ 0
    → AtWork (found % high_half) (nat_lt most_jobs found) w.0 × (found ≤ most_jobs → w.0.known.seen_stop ≡ false) × (w.0.claim ≡ m.0.claim)
    × SharesAsBefore m.0 w.0 × (published_of w.0.trail ≡ published_of m.0.trail)
number_learned m w q found inside_q a some = let number = by_equal found 0
    (λ b. (if b then None else Some (found % high_half)) ≡ Some (found % high_half)) (λ z. absurd (some z)) (λ _. refl) in rw a (
      record { inside = (q, inside_q); number = number; may_stop = refl },
      (λ few. by_less most_jobs found (λ b. (if b then m.0.known.seen_stop else false) ≡ false) (λ lt. absurd (omega arith)) (λ _. refl)),
      refl,
      (refl, refl),
      refl,
    )
