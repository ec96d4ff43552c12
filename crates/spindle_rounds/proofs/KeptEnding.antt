-- The steps that can end a round: an exit, and the closer's stores.
use Rattle.std.proofs.Common.{◌≡◌, ◌≢◌, ◌⊎◌, inl, ⊎_elim, ℕ, ◌+◌, ◌*◌, ◌-◌, ◌<◌, ◌≤◌, Bool, true, false, eq-eqb, ne_eqb, le-ltb, lt-ltb, List, [], ◌∷◌, get_or}
use Rattle.std.proofs.Common.{set, length-set, get_or-set_same, get_or-set_other, sym, refl, ap, ◌∙◌, subst, arith, Option, Some, None, if◌then◌else◌, ◌==◌}
use Rattle.std.proofs.Common.{◌&&◌}
use mathlib.Core.Option.{none, some}
use lib.ListN.{get_elem?}
use Rattle.atomic_table.specs.Table as table
use Rattle.atomic_table.specs.Table.{step, keeps, stepped}
use Rattle.atomic_table.proofs.Lists.{at_set}
use Rattle.spindle_parts.specs.State.{State, Out, Arrived, Party, Round, put_party, now, party, inside, members, waking, weight_in, weight_member, is_in}
use Rattle.spindle_parts.specs.State.{is_member, Free}
use Rattle.spindle_parts.specs.Steps.{Event, Exit, Clear, End, after, arrived, Allowed, with_status, closer_after}
use Rattle.spindle_parts.specs.Runs.{state, IsRun}
use Rattle.spindle_parts.specs.BarrierWord.{word}
use Rattle.spindle_parts.specs.Trail.{trace}
use Rattle.spindle_parts.proofs.Parties.{look_here, look_wake, total_put, inside_le_members, inside_wake, members_wake}
use Rattle.spindle_parts.proofs.Fates.{idle_out}
use Rattle.spindle_parts.proofs.Soundness.{Sound, sound, none_in, no_closer, alone_hidden}
use Rattle.spindle_rounds.specs.declared.round_table.view.Standing.{Standing}
use Rattle.spindle_rounds.specs.declared.round_table.view.Standing.TheVariants.{Away, Inside, Closing}
use Rattle.spindle_rounds.specs.declared.round_table.view.View.{View}
use Rattle.spindle_rounds.specs.RoundSlots.{Discipline, Lawful}
use Rattle.spindle_rounds.specs.declared.round_table.view.Kind.TheVariants as kind
use Rattle.spindle_rounds.specs.RoundRule.{Laid, StandsFor}
use Rattle.spindle_rounds.specs.RoundShown.{deeds, Stands, Shows, Words, InRange, InRemainder, IsLeft, number_of}
use Rattle.spindle_rounds.specs.Words.{barrier_at, published_at, one_party, sense_bit, count_of, most_of, sense_of}
use Rattle.spindle_rounds.specs.RoundSteps.{round_of, noted, standing, outside, exit_word, exiting, with_clear, clearing, turned_word, after_end, ending}
use Rattle.spindle_rounds.specs.RoundTells.{ExitTells, ClearTells, EndTells}
use Rattle.spindle_rounds.specs.RoundConditions.{MayExit}
use Rattle.spindle_rounds.specs.RoundRuns.{Exchange, Store}
use Rattle.spindle_rounds.proofs.RoundQuiet.{quiet_run}
use Rattle.spindle_rounds.proofs.RoundMoves.{Rule, SeatOf, Before, exchanges, stores, moves, moves_with, stands_on, shows_by, knows_none, reseated, laid_hidden}
use Rattle.spindle_rounds.proofs.RoundWords.{word_fields, status_words, by_equal, hidden_shown, and_false}
use Rattle.spindle_rounds.proofs.KeptBarrier.{idle_seat, no_deed}

-- nothing is published before or after a step on the barrier word
pub hidden_words : (t : ℕ) (s s' : State) (ws : List ℕ) (x : ℕ) → Words t s ws → s.published ≡ None → s'.published ≡ None → x ≡ word s' → Words t s'
    (set ws barrier_at x)
hidden_words t s s' ws x w hidden hides is = let wide = w.wide in hidden_shown (length-set ws barrier_at x ∙ w.wide)
    (get_or-set_same ws barrier_at x 0 (omega arith) ∙ is) (get_or-set_other ws barrier_at published_at x 0 (λ e. omega arith) ∙
    (w.published ∙ (ap (λ (o : Option ℕ). number_of o (now s).stoppable) hidden ∙ sym (ap (λ (o : Option ℕ). number_of o (now s').stoppable) hides)))) hides

module _ {X N : Type 0} (D : Discipline X N) (law : Lawful D) (t : ℕ) where
  pub exits : (slots id : ℕ) (me : SeatOf D t) (q old : ℕ) → me.0.standing ≡ Inside q → me.0.claim ≡ None → me.0.to ≤ me.0.from → (me.0.leader ≡ false) ⊎
      (me.0.known.unpublished ≡ true)
      → Exchange D t slots id me barrier_at old (exit_word old) (Exit id ∷ []) ExitTells
  exits slots id me q old inside_q idle empty free = exchanges D law t slots id me barrier_at old (exit_word old) (Exit id ∷ []) exiting
      (λ run s b hit. subst (λ (z : ℕ). Rule D t (Exit id ∷ run) (stepped s barrier_at (exit_word old) id me.1 (exiting z me.0) keeps)) (sym hit)
      (owed run s b hit))
    where
      owed : (run : List Event) (s : table.State X (View N)) → Before D law t slots id me barrier_at run s → get_or s.words barrier_at 0 ≡ old → Rule D t
          (Exit id ∷ run) (stepped s barrier_at (exit_word old) id me.1 (exiting old me.0) keeps)
      owed run s b hit = let r = b.rule in let at = b.at in let S : State = state run in let h = sound run r.is_run in let seat = r.seats id me.0 at in
          let shows = seat.0 in let st = subst (Stands S id) inside_q shows.stands in let f = word_fields S h old (sym hit ∙ r.words.barrier) in
          let is : old ≡ word S = sym hit ∙ r.words.barrier in let ps : List Party = put_party S.parties id (with_status Out (party S id)) in
          let look = look_here S.parties id (with_status Out (party S id)) in let open_now = no_closer S h id st.0 in
          let c₀ = total_put weight_in refl S.parties id (with_status Out (party S id)) in
          let c₁ = total_put weight_member refl S.parties id (with_status Out (party S id)) in let b₀ = ap is_in st.0 in let b₁ = ap is_member st.0 in
          let le = inside_le_members ps in let fc = f.count in let fm = f.most in let fs = f.sense in let ok : Allowed S (Exit id) = (
            st.0,
            idle_seat S id me.0 shows idle empty,
            λ zero. ⊎_elim (λ (a : me.0.leader ≡ false). absurd (shows.leads.1 a zero))
                (λ (a : me.0.known.unpublished ≡ true). ((shows.inside q inside_q).unpublished a).1) free,
          ) in let on : State = record { round = S.round + 1; parties = ps; closer = S.closer; published = S.published; rounds = S.rounds } in
          let own : S.round ≡ round_of me.0.standing = st.1 ∙ sym (ap round_of inside_q) in
          let both : Words t (after S (Exit id)) (set s.words barrier_at (exit_word old)) × Shows (after S (Exit id)) id (exiting old me.0) ×
          ((after S (Exit id)).published ≡ S.published) =
          by_equal (members ps) 0 (λ b. let s' : State = if b then on else arrived S id ps in
          Words t s' (set s.words barrier_at (exit_word old)) × Shows s' id (exiting old me.0) × (s'.published ≡ S.published))
          (λ sole. let hidden = alone_hidden S h id st.0 ok.2 sole in let one : most_of old ≡ 1 = omega arith in
          let new : exit_word old ≡ sense_bit * (1 - sense_of old) = rw (eq-eqb (most_of old) 1 one) in
          let away : Shows on id (exiting old me.0) = rw (le-ltb 1 (most_of old) (omega arith), and_false (count_of old == 1))
          (reseated _ Away _ shows look (ap (λ (z : Party). z.status) look, λ e. cc) (λ _ e. cc)) in
          (hidden_words t S on s.words (exit_word old) r.words hidden hidden (new ∙ omega arith), away, refl))
          (λ others. let more : most_of old ≢ 1 = (λ e. others (omega arith)) in let new : exit_word old ≡ old - one_party = rw (ne_eqb (most_of old) 1 more) in
          let s' : State = arrived S id ps in let closer : Bool → Option ℕ = (λ b. if b then Some id else S.closer) in
          let left : Shows s' id (exiting old me.0) = rw (lt-ltb 1 (most_of old) (omega arith)) (by_equal (count_of old) 1
          (λ z. Shows s' id (noted (trace barrier_at kind.Exit old (exit_word old))
          (outside (if z && true then Closing (round_of me.0.standing) false false None else Away) me.0)))
          (λ one. let closes = ap closer (eq-eqb (inside ps) 0 (omega arith)) in
          reseated _ _ _ shows look (closes, own, (λ z. absurd cc), ap (λ (z : Party). z.status) look, λ n z. absurd cc) (λ _ e. cc))
          (λ some. let a = ap closer (ne_eqb (inside ps) 0 (λ z. some (omega arith))) in
          reseated _ Away _ shows look (ap (λ (z : Party). z.status) look, λ e. cc) (λ _ e. cc))) in
          (status_words t S s.words id (exit_word old) Out (closer_after S ps id) r.words (new ∙ omega arith), left, refl)) in
          moves D law t run s r barrier_at (exit_word old) id me (exiting old me.0) (Exit id ∷ []) at (refl, tt) (tt, tt) (refl, refl, refl)
          (ok, r.is_run) both.0 both.1
          (seat.1 ∙ sym (no_deed id (deeds id run))) refl (inl refl) refl both.2 (inl (omega arith))

  -- the same, the word being computed elsewhere
  pub exits_to : (slots id : ℕ) (me : SeatOf D t) (old new : ℕ) → MayExit me.0 → new ≡ exit_word old → Exchange D t slots id me barrier_at old new
      (Exit id ∷ []) ExitTells
  exits_to slots id me old new may is = subst (λ (z : ℕ). Exchange D t slots id me barrier_at old z (Exit id ∷ []) ExitTells) (sym is)
      (exits slots id me may.0.0 old may.0.1 may.0.2 may.0.3 may.1)

  pub ends_round : (slots id : ℕ) (me : SeatOf D t) (q n : ℕ) (member : Bool) → me.0.standing ≡ Closing q member true (Some n)
      → Store D t slots id me barrier_at (turned_word n) (End id ∷ []) EndTells
  ends_round slots id me q n member closes = stores D law t slots id me barrier_at (turned_word n) (End id ∷ []) ending
      (step slots barrier_at (turned_word n) 0 none) owed
    where
      over : (S : State) → Sound S → Shows S id me.0 → (S.closer ≡ Some id) → S.published ≡ None → S.round ≡ q → (m : Bool) → (party S id).status ≡
          (if m then Arrived else Out) → let x = after_end me.0.leader (Closing q m true (Some n)) in
          Shows (after S (End id)) id (noted (trace barrier_at kind.End (turned_word n) (turned_word n)) (standing x.1 x.0 me.0))
      over S h shows c hidden own true st = let look = look_wake S.parties id in
          reseated _ _ _ shows look (ap (λ (z : Party). z.status) look ∙ ap waking st, omega arith)
          (λ _ _. knows_none me.0.leader false (λ lead. (shows.leads.0 lead, hidden)) (ap (λ (r : Round). r.seen id) (h.later (S.round + 1) (omega arith))))
      over S h shows c hidden own false st = let look = look_wake S.parties id in
          reseated _ _ _ shows look (ap (λ (z : Party). z.status) look ∙ ap waking st, λ e. cc) (λ q e. absurd cc)

      keeps_stored : (lead m : Bool) → (after_end lead (Closing q m true (Some n))).0.stored ≡ []
      keeps_stored lead true = refl
      keeps_stored lead false = refl

      owed : (run : List Event) (s : table.State X (View N)) → Before D law t slots id me barrier_at run s → Rule D t (End id ∷ run)
          (stepped s barrier_at (turned_word n) id me.1 (ending (turned_word n) me.0) keeps)
      owed run s b = let r = b.rule in let at = b.at in let S : State = state run in let h = sound run r.is_run in let seat = r.seats id me.0 at in
          let shows = seat.0 in let st = subst (Stands S id) closes shows.stands in let hidden = st.2 refl in let is : n ≡ word S = sym (st.4 n refl) in
          let f = word_fields S h n is in let fc = f.count in let fm = f.most in let fs = f.sense in let z = (h.gate.closing id st.0).0 in
          let i = inside_wake S.parties in let m = members_wake S.parties in let few = h.gate.few in
          moves D law t run s r barrier_at (turned_word n) id me (ending (turned_word n) me.0) (End id ∷ []) at (refl, tt) (tt, tt) (refl, refl, refl)
          ((st.0, hidden), r.is_run)
          (hidden_words t S (after S (End id)) s.words (turned_word n) r.words hidden hidden (omega arith))
          (subst (λ (z : Standing). let x = after_end me.0.leader z in
          Shows (after S (End id)) id (noted (trace barrier_at kind.End (turned_word n) (turned_word n)) (standing x.1 x.0 me.0))) (sym closes)
          (over S h shows st.0 hidden st.1 member st.3))
          (seat.1 ∙ sym (no_deed id (deeds id run))) refl (inl (ap (λ (z : Standing). (after_end me.0.leader z).0.stored) closes
          ∙ keeps_stored me.0.leader member)) refl refl (inl (omega arith))

  -- what the leader has stored stands after a clear: for the numbers of the round that were not begun
  still_stands : (S : State) → Sound S → (c : ℕ) → S.closer ≡ Some c → (ws : List ℕ) → Words t S ws → (u : View N) → Laid t S ws u → Laid t (after S (Clear c))
      (set ws published_at 0) u
  still_stands S h c closes ws w u l = laid_hidden refl
      (λ i x e. let old = l.stored i x e in let low = old.0 in (old.0, get_or-set_other ws published_at i 0 0 (λ z. omega arith) ∙ old.1))
      (λ q e. stands_on t (S.rounds q) (S.rounds q) ws (set ws published_at 0) refl (λ _. refl)
      (λ i le. get_or-set_other ws published_at i 0 0 (λ z. omega arith)) (go q e S.published refl))
    where
      go : (q : ℕ) → u.laid ≡ Some q → (o : Option ℕ) → S.published ≡ o → StandsFor t (S.rounds q) ws
      go q e None hidden = l.left q e hidden
      go q e (Some n) shown = let here : q ≡ S.round = (let a = l.current (λ z. cc) in cc) in let jobs = (h.gate.shown n shown).0 in
          let k = w.counters n shown in let quiet : (p j : ℕ) → (party S p).taken j ≡ false = (λ p j.
          (idle_out h.fate (now S) S.parties h.work p (none_in S.parties (h.gate.closing c closes).0 p)).0 j) in
          subst (λ (z : ℕ). StandsFor t (S.rounds z) ws) (sym here) (λ j. (
            (λ a. subst (λ (m : ℕ). IsLeft t ws m j) (sym jobs) (k.free j (a.0, a.1, λ p. quiet p j))),
            (λ a. let is : Free S j = ⊎_elim (λ (z : (i : ℕ) × (i < t) × InRange ws i j). k.ranges z.0 j z.1 z.2) (λ (z : InRemainder ws n j). k.remainder j z)
                (subst (λ (m : ℕ). IsLeft t ws m j) jobs a) in (is.0, is.1)),
          ))

  pub clears_round : (slots id : ℕ) (me : SeatOf D t) (q : ℕ) (member was : Bool) (read : Option ℕ) → me.0.standing ≡ Closing q member was read
      → Store D t slots id me published_at 0 (Clear id ∷ []) ClearTells
  clears_round slots id me q member was read closes = stores D law t slots id me published_at 0 (Clear id ∷ []) clearing (step slots published_at 0 0 none) owed
    where
      owed : (run : List Event) (s : table.State X (View N)) → Before D law t slots id me published_at run s → Rule D t (Clear id ∷ run)
          (stepped s published_at 0 id me.1 (clearing 0 me.0) keeps)
      owed run s b = let r = b.rule in let at = b.at in let S : State = state run in let h = sound run r.is_run in let seat = r.seats id me.0 at in
          let shows = seat.0 in let st = subst (Stands S id) closes shows.stands in let w : View N = clearing 0 me.0 in
          let is : with_clear me.0.standing ≡ Closing q member true read = ap with_clear closes in let wide = r.words.wide in
          let ok : IsRun (Clear id ∷ run) = (st.0, r.is_run) in let q' = quiet_run (Clear id ∷ []) run (tt, tt) ok in
          moves_with D t run s r published_at 0 id me w keeps (Clear id ∷ []) at (refl, tt) ok
          (hidden_shown (length-set s.words published_at 0 ∙ r.words.wide)
          (get_or-set_other s.words published_at barrier_at 0 0 (λ e. omega arith) ∙ r.words.barrier)
          (get_or-set_same s.words published_at 0 0 (omega arith)) refl)
          (shows_by (subst (Stands (after S (Clear id)) id) (sym is) (st.0, st.1, (λ _. refl), st.3, st.4)) shows.leads shows.claim shows.share
          (λ q' e. let no : Closing q member true read ≡ Inside q' = sym is ∙ e in absurd cc))
          (seat.1 ∙ sym (no_deed id (deeds id run))) refl
          (λ v e. ⊎_elim (λ (z : (0 ≡ id) × (w ≡ v)). let l = r.lays me.0 (subst (λ (a : ℕ). get_elem? s.views a ≡ some me.0) (sym z.0) at) in
          subst (Laid t (after S (Clear id)) (set s.words published_at 0)) z.1
          (let k = still_stands S h id st.0 s.words r.words me.0 l in laid_hidden refl k.stored (λ q e. k.left q e refl)))
          (λ (z : (0 ≢ id) × (get_elem? s.views 0 ≡ some v)). still_stands S h id st.0 s.words r.words v (r.lays v z.1)) (at_set s.views id 0 w v e))
          (law.stays S (after S (Clear id)) s.homes s.views id me.0 w r.slots q' at (refl, refl, refl))
