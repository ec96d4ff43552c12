-- What the answers of a barrier's calls tell the party that asked: from an answer to Moved (the standing changed, and no deed was done),
-- or to its cases Stayed, InNext (the round has ended), WentOut.
--   arrive        arrived_waits, arrived_closes
--   look          look_ended: InNext; look_running, look_closing, and look_on for both: Stayed
--   try_leave     leave_left: WentOut; look_ended: InNext; look_closing, leave_again: Stayed
--   try_exit      exit_gone: WentOut; exit_closer; exit_again: Stayed
--   clear, end    closed_next of a member, closed_out of one that had exited
--   join          join_joined; join_full, join_closing, join_again: Stayed
-- The invariant of a loop that waits is `Keeps l.initial.b l.b × Stayed l.initial.b.seat.me l.b.seat.me`: keeps_first begins it, keeps_on,
-- look_on and stayed_on keep it, passed_on ends it. Give barriers and `me`s explicitly. Where two arms of a match hand the barrier on,
-- put the match into a function that answers `Result<Barrier, Done>`: the join of two arms loses their facts.
use Rattle.std.proofs.Common.{◌≡◌, ◌≢◌, ◌⊎◌, inl, inr, ⊎_elim, ℕ, ◌+◌, ◌/◌, ◌%◌, ◌<◌, ◌≤◌, Bool, true, false, eq-eqb, ne_eqb, le-ltb, lt-ltb, List, []}
use Rattle.std.proofs.Common.{◌∷◌, ◌++◌, append_assoc, sym, refl, ap, ◌∙◌, subst, arith, Option, None, ◌==◌}
use Rattle.atomic_table.specs.Table.{Me}
use Rattle.spindle_parts.specs.declared.trail.Trace.{Trace}
use Rattle.spindle_rounds.specs.declared.barrier.steps.JoinStep.TheVariants as join
use Rattle.spindle_rounds.specs.declared.barrier.steps.Arrival.TheVariants as arrival
use Rattle.spindle_rounds.specs.declared.barrier.steps.Look.TheVariants as look
use Rattle.spindle_rounds.specs.declared.barrier.steps.LeaveStep.TheVariants as leave
use Rattle.spindle_rounds.specs.declared.barrier.steps.ExitStep.TheVariants as exit
use Rattle.spindle_rounds.specs.declared.round_table.view.Standing.{Standing}
use Rattle.spindle_rounds.specs.declared.round_table.view.Standing.TheVariants.{Away, Inside, Waiting, Closing}
use Rattle.spindle_rounds.specs.declared.round_table.view.Kind.{Kind}
use Rattle.spindle_rounds.specs.declared.round_table.view.Known.{Known}
use Rattle.spindle_rounds.specs.declared.round_table.view.View.{View}
use Rattle.spindle_rounds.specs.RoundShown.{Deed, deed_of, deeds_of}
use Rattle.spindle_parts.specs.Trail.{trace}
use Rattle.spindle_rounds.specs.declared.round_table.view.Kind.TheVariants as kind
use Rattle.spindle_rounds.specs.Seating.{IsSameSeat}
use Rattle.spindle_rounds.specs.Words.{barrier_at, sense_bit, high_half, count_of, most_of, sense_of}
use Rattle.spindle_rounds.specs.RoundSteps.{round_of, unknown, noted, standing, loading, looking, with_clear, clearing}
use Rattle.spindle_rounds.specs.RoundConditions.{HasSense, IsWaiting, MayLeave}
use Rattle.spindle_rounds.specs.Working.{IsIdle}
use Rattle.spindle_rounds.specs.RoundAnswers.{JoinedBy, JoinRefusedBy, ArrivedBy, LookedBy, LeftBy, ExitedBy, EndedBy}
use Rattle.spindle_rounds.specs.declared.barrier.Barrier.{Barrier}
use Rattle.spindle_rounds.specs.declared.barrier.steps.Look.{Look}
use Rattle.spindle_rounds.specs.declared.barrier.JoinRefused.{JoinRefused}
use Rattle.spindle_rounds.specs.declared.barrier.JoinRefused.TheVariants as refused
use Rattle.atomic_table.specs.declared.shared.Seat.{Seat}
use Rattle.spindle_rounds.specs.declared.barrier.waiting.ExitStatus.{ExitStatus}
use Rattle.spindle_rounds.specs.declared.barrier.waiting.ExitStatus.TheVariants as status
use Rattle.spindle_rounds.specs.Holding.{IsHeld, Keeps, AwaitTold, StatusTold}
use Rattle.spindle_rounds.specs.Passing.{Moved, Stayed, InNext, WentOut, TurnsOn}
use Rattle.spindle_rounds.proofs.RoundWords.{and_false}

module _ {N : Type 0} (v : View N) (q : ℕ) (quiet : Bool) (waits : v.standing ≡ Waiting q quiet) (n : ℕ) where
  -- its own sense isn't in the word: the round goes on
  pub still_waits : (sense : ℕ) → HasSense v.standing sense → n < high_half → sense_of n ≢ sense → looking n v ≡ loading barrier_at n v
  still_waits sense has small other = let own : sense ≡ (q + 1) % 2 = subst (λ (z : Standing). HasSense z sense) waits has in
      let r : round_of v.standing ≡ q = ap round_of waits in let k : ℕ = round_of v.standing in
      let e : n / sense_bit ≡ k % 2 = (let d : n / sense_bit ≢ (q + 1) % 2 = (λ z. other (z ∙ sym own)) in omega arith) in rw (eq-eqb (n / sense_bit) (k % 2) e)

  -- it is: the round has ended, and the party is inside the next
  pub has_ended : (sense : ℕ) → HasSense v.standing sense → sense_of n ≡ sense → looking n v ≡ standing (Inside (round_of v.standing + 1))
      (unknown v.leader false) (loading barrier_at n v)
  has_ended sense has same = let own : sense ≡ (q + 1) % 2 = subst (λ (z : Standing). HasSense z sense) waits has in
      let r : round_of v.standing ≡ q = ap round_of waits in let k : ℕ = round_of v.standing in
      let e : n / sense_bit ≢ k % 2 = (λ z. let d : n / sense_bit ≡ (q + 1) % 2 = same ∙ own in absurd (omega arith)) in rw (ne_eqb (n / sense_bit) (k % 2) e)

deeds_append : (a b : List (Trace Kind)) → deeds_of (a ++ b) ≡ deeds_of a ++ deeds_of b
deeds_append [] b = refl
deeds_append (x ∷ xs) b = ap (λ (l : List Deed). deed_of x.kind ++ l) (deeds_append xs b) ∙ sym (append_assoc (deed_of x.kind) (deeds_of xs) (deeds_of b))

module _ {S N : Type 0} where
  -- one step more
  pub moved_once : (st : Standing) (k : Known) (m : Me S (View N)) (x : Trace Kind) → deed_of x.kind ≡ [] → Moved st k m (noted x (standing st k m.0), m.1)
  moved_once st k m x none = record { steps = x ∷ []; seat = refl; quiet = ap (λ (l : List Deed). l ++ []) none }

  -- a load of the barrier word, and then one step more
  moved_twice : (st : Standing) (k : Known) (m : Me S (View N)) (n : ℕ) (x : Trace Kind) → deed_of x.kind ≡ []
      → Moved st k m (noted x (standing st k (loading barrier_at n m.0)), m.1)
  moved_twice st k m n x none = record { steps = x ∷ trace barrier_at kind.Load n n ∷ []; seat = refl; quiet = ap (λ (l : List Deed). l ++ []) none }

  -- steps after steps
  pub moved_on : (st st' : Standing) (k k' : Known) (m u w : Me S (View N)) → Moved st k m u → Moved st' k' u w → Moved st' k' m w
  moved_on st st' k k' m u w a b = record {
    steps = b.steps ++ a.steps;
    seat = b.seat ∙ (ap (λ (z : Me S (View N)). (record z.0 { standing = st'; known = k'; trail = b.steps ++ z.0.trail }, z.1)) a.seat ∙ ap
        (λ (l : List (Trace Kind)). (record m.0 { standing = st'; known = k'; trail = l }, m.1)) (sym (append_assoc b.steps a.steps m.0.trail)));
    quiet = deeds_append b.steps a.steps ∙ (λ i. b.quiet i ++ a.quiet i);
  }

  -- what such steps leave of the seat
  pub moved_standing : (st : Standing) (k : Known) (m w : Me S (View N)) → Moved st k m w → w.0.standing ≡ st
  moved_standing st k m w a = ap (λ (z : Me S (View N)). z.0.standing) a.seat

  pub moved_known : (st : Standing) (k : Known) (m w : Me S (View N)) → Moved st k m w → w.0.known ≡ k
  moved_known st k m w a = ap (λ (z : Me S (View N)). z.0.known) a.seat

  pub moved_claim : (st : Standing) (k : Known) (m w : Me S (View N)) → Moved st k m w → (w.0.claim ≡ m.0.claim) × (w.0.from ≡ m.0.from) × (w.0.to ≡ m.0.to)
  moved_claim st k m w a = rw a.seat (refl, refl, refl)

  pub moved_leader : (st : Standing) (k : Known) (m w : Me S (View N)) → Moved st k m w → (w.0.leader ≡ m.0.leader) × (w.0.threads ≡ m.0.threads)
  moved_leader st k m w a = rw a.seat (refl, refl)

  pub moved_deeds : (st : Standing) (k : Known) (m w : Me S (View N)) → Moved st k m w → deeds_of w.0.trail ≡ deeds_of m.0.trail
  moved_deeds st k m w a = ap (λ (z : Me S (View N)). deeds_of z.0.trail) a.seat ∙
      (deeds_append a.steps m.0.trail ∙ ap (λ (l : List Deed). l ++ deeds_of m.0.trail) a.quiet)

  pub stayed_first : (m : Me S (View N)) → Stayed m m
  stayed_first m = record { steps = []; seat = refl; quiet = refl }

  pub stayed_on : (m u w : Me S (View N)) → Stayed m u → Stayed u w → Stayed m w
  stayed_on m u w a b = moved_on m.0.standing m.0.standing m.0.known m.0.known m u w a
      (subst (λ (z : Standing × Known). Moved z.0 z.1 u w) (λ i. ((a.seat i).0.standing, (a.seat i).0.known)) b)

  pub passed_on : (m u w : Me S (View N)) → Stayed m u → InNext u w → InNext m w
  passed_on m u w a b = moved_on m.0.standing (Inside (round_of m.0.standing + 1)) m.0.known (unknown m.0.leader false) m u w a
      (subst (λ (z : ℕ × Bool). Moved (Inside (z.0 + 1)) (unknown z.1 false) u w) (λ i. (round_of (a.seat i).0.standing, (a.seat i).0.leader)) b)

  pub went_on : (m u w : Me S (View N)) → Stayed m u → WentOut u w → WentOut m w
  went_on m u w a b = moved_on m.0.standing Away m.0.known (unknown false false) m u w a b

  -- its round ends after steps within the round
  pub passed_from : (st : Standing) (k : Known) (m u w : Me S (View N)) → round_of st ≡ round_of m.0.standing → Moved st k m u → InNext u w → InNext m w
  passed_from st k m u w same a b = moved_on st (Inside (round_of m.0.standing + 1)) k (unknown m.0.leader false) m u w a
      (subst (λ (z : ℕ × Bool). Moved (Inside (z.0 + 1)) (unknown z.1 false) u w)
      (λ i. ((ap (λ (z : Me S (View N)). round_of z.0.standing) a.seat ∙ same) i, (a.seat i).0.leader)) b)

  -- Joins.
  module _ (m w : Me S (View N)) where
    pub join_joined : (sense : ℕ) (a : JoinedBy (join.Joined sense) m w) → Moved (Inside a.1) (unknown m.0.leader a.2) m w
    join_joined sense a = rw a.3 (moved_twice (Inside a.1) (unknown m.0.leader a.2) m a.0 _ refl)

    pub join_full : JoinedBy join.Full m w → Stayed m w
    join_full a = rw a.1 (moved_once _ _ m _ refl)

    pub join_closing : JoinedBy join.Closing m w → Stayed m w
    join_closing a = rw a.1 (moved_once _ _ m _ refl)

    pub join_again : JoinedBy join.Again m w → Stayed m w
    join_again a = rw a.2 (moved_twice _ _ m a.0 _ refl)

    -- Arrivals.
    pub arrived_waits : ArrivedBy arrival.Arrived m w → Moved (Waiting (round_of m.0.standing) m.0.known.unpublished) (unknown false false) m w
    arrived_waits a = rw (a.1, ne_eqb (count_of a.0) 1 a.2) (moved_once _ _ m _ refl)

    pub arrived_closes : ArrivedBy arrival.Closer m w → Moved (Closing (round_of m.0.standing) true false None) (unknown false false) m w
    arrived_closes a = rw (a.1, eq-eqb (count_of a.0) 1 a.2) (moved_once _ _ m _ refl)

    -- Exits.
    pub exit_gone : ExitedBy exit.Gone m w → WentOut m w
    exit_gone a = ⊎_elim (λ (e : count_of a.0 ≢ 1). rw (a.1, ne_eqb (count_of a.0) 1 e) (moved_twice _ _ m a.0 _ refl))
        (λ (e : most_of a.0 ≤ 1). rw (a.1, le-ltb 1 (most_of a.0) e, and_false (count_of a.0 == 1)) (moved_twice _ _ m a.0 _ refl)) a.2

    pub exit_closer : ExitedBy exit.Closer m w → Moved (Closing (round_of m.0.standing) false false None) (unknown false false) m w
    exit_closer a = rw (a.1, eq-eqb (count_of a.0) 1 a.2, lt-ltb 1 (most_of a.0) a.3) (moved_twice _ _ m a.0 _ refl)

    pub exit_again : ExitedBy exit.Again m w → Stayed m w
    exit_again a = rw a.2 (moved_twice _ _ m a.0 _ refl)

    -- The closer's stores.
    pub cleared_once : w ≡ (clearing 0 m.0, m.1) → Moved (with_clear m.0.standing) m.0.known m w
    cleared_once e = rw e (moved_once _ _ m _ refl)

    -- a member is inside the next round, and one that had exited is out
    pub ended_next : (q : ℕ) (was : Option ℕ) → m.0.standing ≡ Closing q true true was → EndedBy m w → InNext m w
    ended_next q was closes a = rw (a.1, closes) (moved_twice _ _ _ a.0 _ refl)

    pub ended_out : (q : ℕ) (was : Option ℕ) → m.0.standing ≡ Closing q false true was → EndedBy m w → WentOut m w
    ended_out q was closes a = rw (a.1, closes) (moved_twice _ _ _ a.0 _ refl)

  -- Looks and leaves.
  module _ (m w : Me S (View N)) (sense : ℕ) (waits : IsWaiting m.0) (has : HasSense m.0.standing sense) where
    pub look_ended : LookedBy sense look.Ended m w → InNext m w
    look_ended a = rw (a.1, has_ended m.0 waits.0 waits.1 waits.2 a.0 sense has a.3) (moved_once _ _ m _ refl)

    goes_on : (n : ℕ) → w ≡ (looking n m.0, m.1) → n < high_half → sense_of n ≢ sense → Stayed m w
    goes_on n is small other = rw (is, still_waits m.0 waits.0 waits.1 waits.2 n sense has small other) (moved_once _ _ m _ refl)

    pub look_running : LookedBy sense look.Running m w → Stayed m w
    look_running a = goes_on a.0 a.1 a.2 a.3

    pub look_closing : LookedBy sense look.Closing m w → Stayed m w
    look_closing a = goes_on a.0 a.1 a.2 a.3

    pub leave_left : LeftBy sense leave.Left m w → WentOut m w
    leave_left a = rw (a.1, still_waits m.0 waits.0 waits.1 waits.2 a.0 sense has a.2 a.3) (moved_twice _ _ m a.0 _ refl)

    pub leave_again : LeftBy sense leave.Again m w → Stayed m w
    leave_again a = rw (a.2, still_waits m.0 waits.0 waits.1 waits.2 a.0 sense has a.3 a.4) (moved_twice _ _ m a.0 _ refl)

    -- a look that sees no end
    pub look_on : (l : Look) → (l ≡ look.Ended → ⊥) → LookedBy sense l m w → Stayed m w
    look_on look.Ended n a = absurd (n refl)
    look_on look.Running n a = look_running a
    look_on look.Closing n a = look_closing a

  -- a turn that looks and sees no end
  pub turned_look : (m w : Me S (View N)) (sense n : ℕ) (l : Look) → (l ≡ look.Ended → ⊥) → n ≡ 0 → LookedBy sense l m w → TurnsOn sense n m w
  turned_look m w sense n look.Ended not zero_asked a = absurd (not refl)
  turned_look m w sense n look.Running not zero_asked a = inr (zero_asked, inl a)
  turned_look m w sense n look.Closing not zero_asked a = inr (zero_asked, inr a)

  -- it may still leave where it stayed
  pub may_wait : (m : Me S (View N)) → MayLeave m.0 → IsWaiting m.0
  may_wait m w = (w.0, w.1, w.2)

  pub stayed_leaving : (m u : Me S (View N)) → Stayed m u → MayLeave m.0 → MayLeave u.0
  stayed_leaving m u a w = rw a.seat w

  -- it still waits where it stayed
  pub stayed_waiting : (m u : Me S (View N)) → Stayed m u → IsWaiting m.0 → IsWaiting u.0
  stayed_waiting m u a w = rw a.seat w

  -- a clear and an end
  module _ (m u w : Me S (View N)) (q : ℕ) (was : Bool) (read : Option ℕ) (clears : u ≡ (clearing 0 m.0, m.1)) (ends : EndedBy u w) where
    pub closed_next : m.0.standing ≡ Closing q true was read → InNext m w
    closed_next closes = let c = cleared_once m u clears in let is : with_clear m.0.standing ≡ Closing q true true read = ap with_clear closes in
        passed_from (with_clear m.0.standing) m.0.known m u w (ap round_of is ∙ sym (ap round_of closes)) c
        (ended_next u w q read (ap (λ (z : Me S (View N)). z.0.standing) c.seat ∙ is) ends)

    pub closed_out : m.0.standing ≡ Closing q false was read → WentOut m w
    closed_out closes = let c = cleared_once m u clears in let is : with_clear m.0.standing ≡ Closing q false true read = ap with_clear closes in
        moved_on (with_clear m.0.standing) Away m.0.known (unknown false false) m u w c
        (ended_out u w q read (ap (λ (z : Me S (View N)). z.0.standing) c.seat ∙ is) ends)

-- The party of a barrier.
module _ {T S N : Type 0} where
  pub keeps_first : (a : Barrier T S N) → IsHeld a → Keeps a a
  keeps_first a h = (h, (refl, refl, refl))

  pub keeps_on : (a b c : Barrier T S N) → Keeps a b → Keeps b c → Keeps a c
  keeps_on a b c x y = let e = x.1 in let f = y.1 in (y.0, (f.0 ∙ e.0, f.1 ∙ e.1, f.2 ∙ e.2))

  -- the sense that a party waits for is its round's
  pub same_sense : (a b : Barrier T S N) → IsHeld a → IsHeld b → Stayed a.seat.me b.seat.me → IsWaiting a.seat.me.0 → b.sense ≡ a.sense
  same_sense a b x y s w = let e = ap (λ (z : Me S (View N)). z.0.standing) s.seat in
      subst (λ (z : Standing). HasSense z b.sense) (e ∙ w.2) y.1 ∙ sym (subst (λ (z : Standing). HasSense z a.sense) w.2 x.1)

  -- what a party that stayed is told, it is told from the start
  pub await_on : (a b : Barrier T S N) (e : ExitStatus T S N) → IsHeld a → MayLeave a.seat.me.0 → Keeps a b × Stayed a.seat.me b.seat.me → AwaitTold b e
      → AwaitTold a e
  await_on a b (status.Exit u) held may s told = let k = s.0.1 in let c = told.1 in (
    (told.0.0 ∙ (s.0.0.0 ∙ (ap (λ i. i.now.table.shared.table_id) k.0 ∙ sym held.0)), told.0.1 ∙ k.2),
    (
      c.0,
      stayed_on a.seat.me b.seat.me c.0 s.1 c.1,
      subst (λ (z : ℕ). LeftBy z leave.Left c.0 u.me) (same_sense a b held s.0.0 s.1 (may_wait a.seat.me may)) c.2,
    ),
  )
  await_on a b (status.Remain c) held may s told = (keeps_on a b c s.0 told.0, passed_on a.seat.me b.seat.me c.seat.me s.1 told.1)

  -- an arrival and then a wait
  pub status_of : (a b : Barrier T S N) (e : ExitStatus T S N) → IsHeld a → Keeps a b → ArrivedBy arrival.Arrived a.seat.me b.seat.me → AwaitTold b e
      → StatusTold a e
  status_of a b (status.Exit u) held keeps came told = let k = keeps.1 in let c = told.1 in let m = arrived_waits a.seat.me b.seat.me came in
      let st = ap (λ (z : Me S (View N)). z.0.standing) m.seat in (
        (told.0.0 ∙ (keeps.0.0 ∙ (ap (λ i. i.now.table.shared.table_id) k.0 ∙ sym held.0)), told.0.1 ∙ k.2),
        (b.seat.me, c.0, came, c.1, subst (λ (z : ℕ). LeftBy z leave.Left c.0 u.me) (subst (λ (z : Standing). HasSense z b.sense) st keeps.0.1) c.2),
      )
  status_of a b (status.Remain c) held keeps came told = (
    keeps_on a b c keeps told.0,
    passed_from _ _ a.seat.me b.seat.me c.seat.me refl (arrived_waits a.seat.me b.seat.me came) told.1,
  )

module _ {S N : Type 0} where
  -- a join refused for a moment leaves the seat as it was
  pub refused_stays : (s u : Seat S (View N)) (e : JoinRefused (Seat S (View N))) → (e ≡ refused.Closing u) ⊎ (e ≡ refused.Again u) → JoinRefusedBy s e
      → IsSameSeat s u × Stayed s.me u.me
  refused_stays s u e why told = ⊎_elim (λ (z : e ≡ refused.Closing u). let a = subst (JoinRefusedBy s) z told in (a.0, join_closing s.me u.me a.1))
      (λ (z : e ≡ refused.Again u). let a = subst (JoinRefusedBy s) z told in (a.0, join_again s.me u.me a.1)) why

  pub refused_on : (s t u : Seat S (View N)) → IsSameSeat s t × Stayed s.me t.me → IsSameSeat t u × Stayed t.me u.me → IsSameSeat s u × Stayed s.me u.me
  refused_on s t u a b = ((b.0.0 ∙ a.0.0, b.0.1 ∙ a.0.1), stayed_on s.me t.me u.me a.1 b.1)

-- A party with no claim and no share, from step to step.
module _ {S N : Type 0} (m w : Me S (View N)) where
  pub moved_idle : (st : Standing) (k : Known) → Moved st k m w → IsIdle m.0 → IsIdle w.0
  moved_idle st k a idle = let c = moved_claim st k m w a in (c.0 ∙ idle.0, (let e = idle.1 in let f = c.1 in let g = c.2 in omega arith))
