-- How a party's work goes on with its seat, from one claim to the next.
-- What `run` of a `Work` owes as HasFinished is the clause `finished` of `finish`, where it finished last. finish_after carries it over
-- steps that came before, and stop_done of RoundClients over a stop: the seat still has its claim, and owes nothing of what was seen.
use Rattle.std.proofs.Common.{◌≡◌, ℕ, List, Bool, true, false, ◌+◌, MatchBool, None, Some, inr, refl, sym, ap, ◌∙◌, subst, arith}
use Rattle.atomic_table.specs.Table.{Me}
use Rattle.atomic_table.specs.declared.shared.Seat.{Seat}
use Rattle.spindle_rounds.specs.declared.round.Round.{Round}
use Rattle.spindle_rounds.specs.declared.round.publishing.PublishedRound.{PublishedRound}
use Rattle.spindle_rounds.specs.declared.round.claiming.Source.TheVariants.{Longest, Remainder}
use Rattle.spindle_rounds.specs.declared.round.stopping.PutBack.{PutBack}
use Rattle.spindle_rounds.specs.declared.round.stopping.PutBack.TheVariants as back
use Rattle.spindle_rounds.specs.declared.round_table.view.View.{View}
use Rattle.spindle_rounds.specs.Spans.{Span}
use Rattle.spindle_rounds.specs.RoundAnswers.{SharedBy, PutBy}
use Rattle.spindle_rounds.specs.RoundConditions.{MayClaim, IsDone, HasEmptiedAll}
use Rattle.spindle_rounds.specs.RoundSlots.{Discipline}
use Rattle.spindle_rounds.specs.RoundViews.{Onward, SeesAsBefore, SharesAsBefore, stops_of}
use Rattle.spindle_rounds.specs.Seating.{IsSameSeat}
use Rattle.spindle_rounds.specs.Sources.{HasEmptied}
use Rattle.spindle_rounds.specs.Working.{IsIdle}
use Rattle.spindle_rounds.specs.PartyWork.{IsAtPublished, WentOn, HasTaken, HasFinished}
use Rattle.spindle_rounds.proofs.RoundClients.{all_empty}
use Rattle.spindle_rounds.proofs.RoundOnward.{onward_same, onward_then, still_at_work, may_claim}

-- who shares as before has no number left where it had none
pub still_idle : {N : Type 0} (v w : View N) → IsIdle v → SharesAsBefore v w → w.claim ≡ None → IsIdle w
still_idle v w idle same claim = (claim, (let from = same.0 in let to = same.1 in let le = idle.1 in omega arith))

-- where nothing is left, that stays so
pub over_on : {N : Type 0} (v w : View N) → Onward v w → HasEmptiedAll v → HasEmptiedAll w
over_on v w on all = λ i le. on.emptied i (all i (let same = on.threads in omega arith))

-- who has gone on with its claim and its share, and then finishes, has finished
pub finish_after : {N : Type 0} (found : ℕ) (u v w : View N) → Onward u v → (u.known.may_stop ≡ false → SeesAsBefore u v) → SharesAsBefore u v
    → HasFinished found v w → HasFinished found u w
finish_after found u v w on sees same f = (
  onward_then u v w on f.0,
  (λ plain. let a = f.1 (on.may_stop ∙ plain) in let b = sees plain in (a.0 ∙ b.0, a.1 ∙ b.1)),
  (f.2.0 ∙ same.0, f.2.1 ∙ same.1),
  f.3,
  λ last. f.4 (on.number ∙ last),
)

module _ {T S N : Type 0} (round : Round T S N) (published : PublishedRound) where
  pub went_first : (s : Seat S (View N)) → IsAtPublished round published s → WentOn round published s s
  went_first s at = record { same = (refl, refl); on = onward_same s.me.0; at = at }

  pub went_then : (s t u : Seat S (View N)) → WentOn round published s t → WentOn round published t u → WentOn round published s u
  went_then s t u f g = record { same = (g.same.0 ∙ f.same.0, g.same.1 ∙ f.same.1); on = onward_then s.me.0 t.me.0 u.me.0 f.on g.on; at = g.at }

  -- a step after which only in a round that may stop more was seen
  pub went_step : (s t : Seat S (View N)) → IsAtPublished round published s → IsSameSeat s t → Onward s.me.0 t.me.0 →
      (s.me.0.known.may_stop ≡ false → SeesAsBefore s.me.0 t.me.0) → WentOn round published s t
  went_step s t at same step sees = record {
    same = same;
    on = step;
    at = record {
      seated = same.0 ∙ at.seated;
      sized = step.threads ∙ at.sized;
      on = (still_at_work published.jobs published.may_stop s.me.0 t.me.0 at.on.0 step, λ plain. (sees (at.on.0.may_stop ∙ plain)).0 ∙ at.on.1 plain);
    };
  }

  -- and one more such step
  pub went_more : (s t u : Seat S (View N)) → WentOn round published s t → IsSameSeat t u → Onward t.me.0 u.me.0 →
      (t.me.0.known.may_stop ≡ false → SeesAsBefore t.me.0 u.me.0) → WentOn round published s u
  went_more s t u went same step sees = went_then s t u went (went_step t u went.at same step sees)

  -- who has seen no stop may claim
  pub claims_at : (s : Seat S (View N)) → IsAtPublished round published s → IsIdle s.me.0 → s.me.0.known.seen_stop ≡ false → MayClaim s.me.0
  claims_at s at idle unseen = may_claim published.jobs published.may_stop s.me.0 at.on.0 idle.0 idle.1 unseen

  -- after the round's last job nothing is left
  pub over_at : (s t : Seat S (View N)) (before : ℕ) → IsAtPublished round published s → HasFinished before s.me.0 t.me.0 → published.jobs ≡ before + 1
      → HasEmptiedAll t.me.0
  over_at s t before at f last = f.4 (at.on.0.number ∙ ap (λ (k : ℕ). Some k) last)

  pub done_over : (s : Seat S (View N)) → IsAtPublished round published s → HasEmptiedAll s.me.0 → IsDone s.me.0
  done_over s at all = inr (inr (inr (published.jobs, at.on.0.number, all)))

  -- who is done is done, and so is who has read all ranges and the remainder as empty
  pub done_at : (s t : Seat S (View N)) → WentOn round published s t → HasEmptied Longest s.me.0 → (over : Bool) → MatchBool over
      (IsDone t.me.0) (HasEmptied Remainder t.me.0) → IsDone t.me.0
  done_at s t went searched true done = done
  done_at s t went searched false rest = all_empty published.jobs published.may_stop t.me.0 went.at.on.0
      (λ i lt. went.on.emptied i (searched i (let same = went.on.threads in omega arith))) rest

  -- no step was made
  pub went_still : (s t u : Seat S (View N)) → WentOn round published s t → IsSameSeat t u → u.me ≡ t.me → WentOn round published s u
  went_still s t u went same is = went_more s t u went same (subst (λ m. Onward t.me.0 m.0) (sym is) (onward_same t.me.0))
      (λ _. (ap (λ m. m.0.known.seen_stop) is, ap (λ m. stops_of m.0.trail) is))

module _ {S N : Type 0} where
  -- the next number of a share has taken its slot
  pub share_taken : (D : Discipline S N) (Held : List (ℕ × S) → Type 0) (m w : Me S (View N)) (i k : ℕ) (share left : Span) → SharedBy D i share
      (Some k) left m w → Held m.1 → HasTaken D Held k w
  share_taken D Held m w i k share left a held = (m.1, held, subst (λ x. D.took k m.1 x w.1) (sym (ap (λ v. v.note) a.1)) a.2)

  -- a share that goes back moves no slot
  pub put_hands : (i : ℕ) (r : PutBack) (share left : Span) (m w : Me S (View N)) → PutBy i r share left m w → w.1 ≡ m.1
  put_hands i back.Put share left m w a = ap (λ z. z.1) a.1
  put_hands i back.Occupied share left m w a = ap (λ z. z.1) a.1
  put_hands i back.Again share left m w a = ap (λ z. z.1) a.2
