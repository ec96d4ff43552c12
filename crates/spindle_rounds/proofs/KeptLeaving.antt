-- A party that has arrived leaves the barrier, and one that is in exits.
use Rattle.std.proofs.Common.{◌≡◌, ◌≢◌, ◌⊎◌, inl, ⊎_elim, ℕ, suc, ◌+◌, ◌-◌, ◌/◌, ◌%◌, ◌<◌, Bool, true, false, List, [], ◌∷◌, get_or, sym, refl, ap, ◌∙◌, subst}
use Rattle.std.proofs.Common.{arith, Some, None}
use Rattle.atomic_table.specs.Table as table
use Rattle.atomic_table.specs.Table.{keeps, stepped}
use Rattle.spindle_parts.specs.State.{State, Out, In, Arrived, Party, now, party, inside, weight_in, weight_member, is_in, is_member}
use Rattle.spindle_parts.specs.Steps.{Event, Leave, Allowed, with_status}
use Rattle.spindle_parts.specs.Runs.{state}
use Rattle.spindle_parts.proofs.Parties.{look_here, total_put}
use Rattle.spindle_parts.proofs.Soundness.{Sound, sound}
use Rattle.spindle_rounds.specs.declared.round_table.view.Standing.TheVariants.{Waiting}
use Rattle.spindle_rounds.specs.declared.round_table.view.View.{View}
use Rattle.spindle_rounds.specs.RoundSlots.{Discipline, Lawful}
use Rattle.spindle_rounds.specs.RoundShown.{deeds, Stands}
use Rattle.spindle_rounds.specs.Words.{barrier_at, field_size, one_member, sense_bit}
use Rattle.spindle_rounds.specs.RoundSteps.{leaving}
use Rattle.spindle_rounds.specs.RoundTells.{LeaveTells}
use Rattle.spindle_rounds.specs.declared.round_table.view.Standing.{Standing}
use Rattle.spindle_rounds.specs.RoundConditions.{MayLeave, HasSense}
use Rattle.spindle_rounds.specs.RoundRuns.{Exchange}
use Rattle.spindle_rounds.proofs.RoundMoves.{Rule, SeatOf, Before, exchanges, moves, reseated}
use Rattle.spindle_rounds.proofs.RoundWords.{word_fields, status_words}
use Rattle.spindle_rounds.proofs.KeptBarrier.{no_deed, none_of}

-- with a member in there is no closer
still_open : (s : State) → Sound s → 0 < inside s.parties → s.closer ≡ None
still_open s h some = none_of s.closer (λ c e. let z = (h.gate.closing c e).0 in omega arith)

module _ {X N : Type 0} (D : Discipline X N) (law : Lawful D) (t : ℕ) where
  pub leaves : (slots id : ℕ) (me : SeatOf D t) (q old : ℕ) (quiet : Bool) → me.0.standing ≡ Waiting q quiet → (me.0.leader ≡ false) ⊎ (quiet ≡ true)
      → old / sense_bit ≢ (q + 1) % 2 → 0 < old % field_size
      → Exchange D t slots id me barrier_at old (old - one_member) (Leave id ∷ []) LeaveTells
  leaves slots id me q old quiet waits free sense some = exchanges D law t slots id me barrier_at old (old - one_member) (Leave id ∷ []) leaving owed
    where
      owed : (run : List Event) (s : table.State X (View N)) → Before D law t slots id me barrier_at run s → get_or s.words barrier_at 0 ≡ old → Rule D t
          (Leave id ∷ run) (stepped s barrier_at (old - one_member) id me.1 (leaving (get_or s.words barrier_at 0) me.0) keeps)
      owed run s b hit = let r = b.rule in let at = b.at in let x : ℕ = get_or s.words barrier_at 0 in let S : State = state run in
          let h = sound run r.is_run in let seat = r.seats id me.0 at in let shows = seat.0 in let f = word_fields S h x r.words.barrier in
          let is = r.words.barrier in let open_now = still_open S h (let e = f.count in omega arith) in
          let st : ((party S id).status ≡ Arrived) × (S.round ≡ q) × (S.closer ≢ Some id) × (quiet ≡ true → (id ≡ 0) × (S.published ≡ None)) = ⊎_elim (λ a. a)
          (λ (a : ((party S id).status ≡ In) × (S.round ≡ suc q) × (id ≡ 0 → S.published ≡ None) × ((now S).seen id ≡ false)). let e = f.sense in let n = a.1 in
          absurd (sense (sym (ap (λ (z : ℕ). z / sense_bit) hit) ∙ e ∙ ap (λ (z : ℕ). z % 2) (n ∙ omega arith))))
          (subst (Stands S id) waits shows.stands) in let ok : Allowed S (Leave id) = (
            st.0,
            open_now,
            λ zero. ⊎_elim (λ (a : me.0.leader ≡ false). absurd (shows.leads.1 a zero)) (λ (a : quiet ≡ true). (st.3 a).1) free,
          ) in let look = look_here S.parties id (with_status Out (party S id)) in
          let c₀ = total_put weight_in refl S.parties id (with_status Out (party S id)) in
          let c₁ = total_put weight_member refl S.parties id (with_status Out (party S id)) in let b₀ = ap is_in st.0 in let b₁ = ap is_member st.0 in
          moves D law t run s r barrier_at (old - one_member) id me (leaving x me.0) (Leave id ∷ []) at (refl, tt) (tt, tt) (refl, refl, refl) (ok, r.is_run)
          (status_words t S s.words id (old - one_member) Out S.closer r.words (omega arith))
          (reseated _ _ _ shows look (ap (λ (z : Party). z.status) look, λ e. cc) (λ r e. absurd cc))
          (seat.1 ∙ sym (no_deed id (deeds id run))) refl (inl refl) refl refl (inl (omega arith))

  -- the same, the word being computed elsewhere
  pub leaves_to : (slots id : ℕ) (me : SeatOf D t) (old new sense : ℕ) (may : MayLeave me.0) → HasSense me.0.standing sense → old / sense_bit ≢ sense
      → old % field_size ≢ 0 → new ≡ old - one_member → Exchange D t slots id me barrier_at old new (Leave id ∷ []) LeaveTells
  leaves_to slots id me old new sense may has other some is = let own : sense ≡ (may.0 + 1) % 2 = subst (λ (z : Standing). HasSense z sense) may.2 has in
      subst (λ (z : ℕ). Exchange D t slots id me barrier_at old z (Leave id ∷ []) LeaveTells) (sym is)
      (leaves slots id me may.0 old may.1 may.2 may.3 (λ e. other (e ∙ sym own)) (omega arith))
