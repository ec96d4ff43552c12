-- The steps on the barrier word of parties that come and arrive, and of the closer.
use Rattle.std.proofs.Common.{◌≡◌, ◌≢◌, ◌⊎◌, inl, inr, ⊎_elim, ℕ, suc, ◌+◌, ◌/◌, ◌%◌, ◌<◌, ◌≤◌, Bool, true, false, eq-eqb, ne_eqb, List, [], ◌∷◌, ◌++◌, get_or}
use Rattle.std.proofs.Common.{sym, refl, ap, ◌∙◌, subst, arith, Option, Some, None, if◌then◌else◌, ◌==◌}
use mathlib.Core.Logic.{dite}
use mathlib.Core.Option.{none}
use native.Mathlib.Decide.{ℕ_discrete}
use Rattle.atomic_table.specs.Table as table
use Rattle.atomic_table.specs.Table.{step, keeps, stepped}
use Rattle.spindle_parts.specs.State.{State, In, Arrived, Party, put_party, now, party, IsUsed, inside, members, weight_in, weight_member, is_in, is_member}
use Rattle.spindle_parts.specs.Steps.{Event, Join, Arrive, after, Allowed, IsIdle, with_status, closer_after}
use Rattle.spindle_parts.specs.Runs.{state}
use Rattle.spindle_parts.proofs.Parties.{look_here, total_put}
use Rattle.spindle_parts.proofs.Soundness.{Sound, sound, no_closer, hidden_out}
use Rattle.spindle_rounds.specs.declared.round_table.view.Standing.TheVariants.{Away, Inside, Waiting, Closing}
use Rattle.spindle_rounds.specs.declared.round_table.view.View.{View}
use Rattle.spindle_rounds.specs.RoundSlots.{Discipline, Lawful}
use Rattle.spindle_rounds.specs.RoundShown.{Deed, deeds, Stands, Knows, Shows, IsListed}
use Rattle.spindle_rounds.specs.Words.{barrier_at, field_size, one_member, one_party, sense_bit}
use Rattle.spindle_rounds.specs.RoundSteps.{round_of, unknown, standing, loading, missing, joining, arriving, looking, with_word}
use Rattle.spindle_rounds.specs.RoundTells.{JoinTells, ArrivalTells, LookTells, CloserReadTells}
use Rattle.spindle_rounds.specs.RoundConditions.{IsDone}
use Rattle.spindle_rounds.specs.RoundRuns.{PlainLoad, Exchange, Subtraction}
use Rattle.spindle_rounds.proofs.RoundMoves.{Rule, SeatOf, Before, turns, reads, hits, misses, moves, stays, noted_shows, untrue, shows_by}
use Rattle.spindle_rounds.proofs.RoundMoves.{knows_none, reseated}
use Rattle.spindle_rounds.proofs.RoundWords.{word_fields, by_equal, status_words}
use Rattle.spindle_rounds.proofs.KeptLoads.{used_up}

pub none_of : (o : Option ℕ) → ((c : ℕ) → o ≡ Some c → ⊥) → o ≡ None
none_of None n = refl
none_of (Some c) n = absurd (n c refl)

-- a seat with neither share nor claim is of a party that is idle
pub idle_seat : {N : Type 0} (s : State) (p : ℕ) (v : View N) → Shows s p v → v.claim ≡ None → v.to ≤ v.from → IsIdle s p
idle_seat s p v w idle empty = (
  (λ k. untrue ((party s p).taken k) (λ e. let z = (w.share k).0 e in let z₀ = z.0 in let z₁ = z.1 in omega arith)),
  w.claim ∙ idle,
)

-- an event that is no deed leaves the party's deeds
pub no_deed : (p : ℕ) (l : List Deed) → (if p == p then [] else []) ++ l ≡ l
no_deed p l = ap (λ (b : Bool). (if b then [] else []) ++ l) (eq-eqb p p refl)

module _ {X N : Type 0} (D : Discipline X N) (law : Lawful D) (t : ℕ) where
  pub joins : (slots id : ℕ) (me : SeatOf D t) (old : ℕ) → me.0.standing ≡ Away → (0 < old % field_size) ⊎ (old / one_member % field_size ≡ 0)
      → old / one_member % field_size < 32767
      → Exchange D t slots id me barrier_at old (old + one_party) (Join id ∷ []) JoinTells
  joins slots id me old away fine room = record {
    shows = λ run s r _ at _. let x : ℕ = get_or s.words barrier_at 0 in let S : State = state run in let h = sound run r.is_run in
        let shows = (r.seats id me.0 at).0 in let st = subst (Stands S id) away shows.stands in let f = word_fields S h x r.words.barrier in
        dite (ℕ_discrete x old)
        (λ hit. let c₀ = total_put weight_in refl S.parties id (with_status In (party S id)) in
        let c₁ = total_put weight_member refl S.parties id (with_status In (party S id)) in let b₀ = ap is_in st.0 in let b₁ = ap is_member st.0 in
        let w : View N = joining S.round ((now S).seen id) x me.0 in let few : members S.parties < 32767 = (let e = f.most in omega arith) in
        let look = look_here S.parties id (with_status In (party S id)) in
        let open_now : S.closer ≡ None = none_of S.closer (λ c e. let z = h.gate.closing c e in let z₀ = z.0 in let z₁ = z.1 in let e₀ = f.count in
        let e₁ = f.most in let few = h.gate.few in ⊎_elim (λ (lt : 0 < old % field_size). omega arith)
        (λ (no : old / one_member % field_size ≡ 0). omega arith) fine) in let ok : Allowed S (Join id) = (st.0, open_now, few) in let is = r.words.barrier in (
          w,
          keeps,
          tt,
          hits D law t slots id me barrier_at run s old (old + one_party) (Join id ∷ []) w keeps hit
              (moves D law t run s r barrier_at (old + one_party) id me w (Join id ∷ []) at (refl, tt) (tt, tt) (refl, refl, refl) (ok, r.is_run)
              (status_words t S s.words id (old + one_party) In S.closer r.words (omega arith))
              (reseated _ _ _ shows look (ap (λ (z : Party). z.status) look, refl) (λ q e. knows_none me.0.leader ((now S).seen id)
              (λ lead. let p = shows.leads.0 lead in (p, hidden_out S h (ap (λ (z : ℕ). (party S z).status) (sym p) ∙ st.0))) refl))
              ((r.seats id me.0 at).1 ∙ sym (no_deed id (deeds id run))) refl (inl refl) refl refl (inl (omega arith))),
          (refl, (λ _. (S.round, (now S).seen id, sym f.sense, refl)), λ not. absurd (not hit)),
        ))
        (λ miss. (
          missing barrier_at x me.0,
          keeps,
          tt,
          misses D law t slots id me 0 run s r at old (old + one_party) (Join id ∷ []) miss,
          (refl, (λ hit. absurd (miss hit)), λ _. refl),
        ));
  }

  -- why nothing is left for a seat that arrives
  used : (s : State) (h : Sound s) (p : ℕ) (v : View N) → Knows v.threads s p v.known → (v.threads ≡ 0 → s.published ≡ None) → IsDone v → s.published ≢ None
      → IsUsed s
  used s h p v k barren done shown = ⊎_elim (λ (z : v.known.unpublished ≡ true). absurd (shown (k.unpublished z).1))
      (⊎_elim (λ (z : v.known.seen_stop ≡ true). inr (h.work.saw p (k.seen ∙ z))) (⊎_elim (λ (z : v.threads ≡ 0). absurd (shown (barren z)))
      (λ (z : (n : ℕ) × (v.known.number ≡ Some n) × ((i : ℕ) → i ≤ v.threads → IsListed i v.known.emptied)). used_up v.threads s z.0
      (λ i le. k.emptied z.0 i z.1 (z.2 i le))))) done

  pub arrives : (slots id : ℕ) (me : SeatOf D t) (q : ℕ) → me.0.standing ≡ Inside q → me.0.claim ≡ None → me.0.to ≤ me.0.from → IsDone me.0
      → Subtraction D t slots id me barrier_at (Arrive id ∷ []) ArrivalTells
  arrives slots id me q inside_q idle empty done = turns D law t slots id me barrier_at (λ n. (n + 18446744073709551615) % 18446744073709551616)
      (Arrive id ∷ []) arriving (step slots barrier_at 1 0 none) owed
    where
      owed : (run : List Event) (s : table.State X (View N)) → Before D law t slots id me barrier_at run s → Rule D t (Arrive id ∷ run)
          (stepped s barrier_at ((get_or s.words barrier_at 0 + 18446744073709551615) % 18446744073709551616) id me.1
          (arriving (get_or s.words barrier_at 0) me.0) keeps)
      owed run s b = let r = b.rule in let at = b.at in let small = b.small in let x : ℕ = get_or s.words barrier_at 0 in let S : State = state run in
          let h = sound run r.is_run in let seat = r.seats id me.0 at in let shows = seat.0 in let st = subst (Stands S id) inside_q shows.stands in
          let f = word_fields S h x r.words.barrier in let is = r.words.barrier in
          let ps : List Party = put_party S.parties id (with_status Arrived (party S id)) in
          let look = look_here S.parties id (with_status Arrived (party S id)) in
          let c₀ = total_put weight_in refl S.parties id (with_status Arrived (party S id)) in
          let c₁ = total_put weight_member refl S.parties id (with_status Arrived (party S id)) in let b₀ = ap is_in st.0 in let b₁ = ap is_member st.0 in
          let knows = shows.inside q inside_q in
          let ok : Allowed S (Arrive id) = (st.0, idle_seat S id me.0 shows idle empty, used S h id me.0 knows (λ z. r.words.barren (sym seat.2 ∙ z)) done) in
          let e = f.count in let less : (x + 18446744073709551615) % 18446744073709551616 + 1 ≡ x = omega arith in let quiet : Bool = me.0.known.unpublished in
          let own : S.round ≡ round_of me.0.standing = st.1 ∙ sym (ap round_of inside_q) in
          moves D law t run s r barrier_at ((x + 18446744073709551615) % 18446744073709551616) id me (arriving x me.0) (Arrive id ∷ []) at (refl, tt) (tt, tt)
          (refl, refl, refl) (ok, r.is_run)
          (status_words t S s.words id ((x + 18446744073709551615) % 18446744073709551616) Arrived (closer_after S ps id) r.words (omega arith))
          (reseated _ _ _ shows look
          (by_equal (x % field_size) 1 (λ b. Stands (after S (Arrive id)) id
          (if b then Closing (round_of me.0.standing) true false None else Waiting (round_of me.0.standing) quiet))
          (λ one. let closes = ap (λ (b : Bool). if b then Some id else S.closer) (eq-eqb (inside ps) 0 (omega arith)) in
          (closes, own, (λ z. absurd cc), ap (λ (z : Party). z.status) look, λ n z. absurd cc))
          (λ more. inl (
            ap (λ (z : Party). z.status) look,
            own,
            (λ z. let a = ap (λ (b : Bool). if b then Some id else S.closer)
                (ne_eqb (inside ps) 0 (λ zero_in. more (omega arith))) in let b = no_closer S h id st.0 in cc),
            knows.unpublished,
          )))
          (λ q e. by_equal (x % field_size) 1 (λ b. (if b then Closing (round_of me.0.standing) true false None else Waiting
          (round_of me.0.standing) quiet) ≡ Inside q → Knows me.0.threads (after S (Arrive id)) id (unknown false false)) (λ _ z. absurd cc)
          (λ _ z. absurd cc) e))
          (seat.1 ∙ sym (no_deed id (deeds id run))) refl (inl refl) refl refl (inl (omega arith))

  -- a seat that waits reads the word, which shows its sense exactly if its round has ended
  pub looks : (slots id : ℕ) (me : SeatOf D t) (q : ℕ) (quiet : Bool) → me.0.standing ≡ Waiting q quiet → PlainLoad D t slots id me barrier_at LookTells
  looks slots id me q quiet waits = record {
    shows = λ run s r _ at _. let x : ℕ = get_or s.words barrier_at 0 in let S : State = state run in let h = sound run r.is_run in
        let f = word_fields S h x r.words.barrier in let shows = (r.seats id me.0 at).0 in let st = subst (Stands S id) waits shows.stands in
        let own : round_of me.0.standing ≡ q = ap round_of waits in let sense = f.sense in let w₀ : View N = loading barrier_at x me.0 in
        let w₁ : View N = standing (Inside (round_of me.0.standing + 1)) (unknown me.0.leader false) w₀ in
        let goal : Bool → Type 0 = (λ b. Rule D t run (stepped s barrier_at x id me.1 (if b then w₀ else w₁) keeps)) in (
          looking x me.0,
          keeps,
          tt,
          by_equal (x / sense_bit) (round_of me.0.standing % 2) goal
              (λ _. stays D law t run s r barrier_at id me w₀ at (refl, refl, refl) (noted_shows S id me.0 _ shows) refl refl (inr refl) refl)
              (λ over. stays D law t run s r barrier_at id me w₁ at (refl, refl, refl)
              (⊎_elim (λ (a : ((party S id).status ≡ Arrived) × (S.round ≡ q) × (S.closer ≢ Some id) ×
              (quiet ≡ true → (id ≡ 0) × (S.published ≡ None))). let a₁ = a.1 in absurd (over (sense ∙ ap (λ (z : ℕ). z % 2) (a₁ ∙ sym own))))
              (λ (a : ((party S id).status ≡ In) × (S.round ≡ suc q) × (id ≡ 0 → S.published ≡ None) × ((now S).seen id ≡ false)). let a₁ = a.1 in
              shows_by (a.0, omega arith) shows.leads shows.claim shows.share
              (λ _ _. knows_none me.0.leader false (λ lead. (shows.leads.0 lead, a.2 (shows.leads.0 lead))) a.3)) st) refl refl (inl refl) refl),
          (refl, refl, f.small),
        );
  }

  -- the closer reads the word, which stands from then on
  pub closer_reads : (slots id : ℕ) (me : SeatOf D t) (q : ℕ) (member cleared : Bool) (was : Option ℕ) → me.0.standing ≡ Closing q member cleared was
      → PlainLoad D t slots id me barrier_at CloserReadTells
  closer_reads slots id me q member cleared was closes = reads D law t slots id me barrier_at (λ x. with_word x me.0.standing) (λ _. me.0.known) _ (λ _. refl)
      (λ run s b. let r = b.rule in let x : ℕ = get_or s.words barrier_at 0 in let S : State = state run in
      let f = word_fields S (sound run r.is_run) x r.words.barrier in let shows = (r.seats id me.0 b.at).0 in
      let st = subst (Stands S id) closes shows.stands in let is : with_word x me.0.standing ≡ Closing q member cleared (Some x) = ap (with_word x) closes in (
        shows_by (subst (Stands S id) (sym is) (st.0, st.1, st.2, st.3, λ n e. let same : x ≡ n = cc in sym r.words.barrier ∙ same))
            shows.leads shows.claim shows.share (λ q' e. let no : Closing q member cleared (Some x) ≡ Inside q' = sym is ∙ e in absurd cc),
        (refl, refl, f.small),
      ))
