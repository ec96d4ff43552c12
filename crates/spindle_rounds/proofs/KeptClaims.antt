-- The exchanges with which numbers are claimed.
use Rattle.std.proofs.Common.{◌≡◌, ◌≢◌, inr, ⊎_elim, ℕ, ◌+◌, ◌/◌, ◌%◌, ◌<◌, ◌≤◌, Bool, true, false, eq-eqb, ne_eqb, List, [], ◌∷◌, ◌++◌, length}
use Rattle.std.proofs.Common.{get_or, set, sym, refl, ap, ◌∙◌, subst, arith, Option, Some, None, if◌then◌else◌}
use mathlib.Core.Logic.{dite}
use native.Mathlib.Decide.{ℕ_discrete}
use Rattle.atomic_table.specs.Table as table
use Rattle.atomic_table.specs.Table.{Act, stepped, Valid, carried_after}
use Rattle.spindle_parts.specs.State.{State, Party, put, party, Free}
use Rattle.spindle_parts.specs.Steps.{Event, Take, Begin, Allowed}
use Rattle.spindle_parts.specs.Runs.{state}
use Rattle.spindle_parts.specs.EverySchedule.{only}
use Rattle.spindle_parts.proofs.Parties.{put_here, put_else}
use Rattle.spindle_parts.proofs.Soundness.{sound}
use Rattle.spindle_rounds.specs.declared.round_table.view.Standing.TheVariants.{Inside}
use Rattle.spindle_rounds.specs.declared.round_table.view.View.{View}
use Rattle.spindle_rounds.specs.RoundSlots.{Discipline, Lawful}
use Rattle.spindle_rounds.specs.RoundShown.{Began, deeds, Stands, Counters, IsWithin, IsShare}
use Rattle.spindle_rounds.specs.Words.{remainder_at, range_at, words_of, high_half, start_of}
use Rattle.spindle_rounds.specs.RoundSteps.{round_of, beginning, claiming}
use Rattle.spindle_rounds.specs.RoundTells.{ClaimTells}
use Rattle.spindle_rounds.specs.RoundConditions.{MayClaim}
use Rattle.spindle_rounds.specs.RoundRuns.{Exchange, claim_of}
use Rattle.spindle_rounds.proofs.RoundMoves.{Rule, SeatOf, Before, begins_by, moves_with, still_laid, shows_by, knows_on}
use Rattle.spindle_rounds.proofs.RoundNumbers.{or_false, or_right, true_or, with_some, taken_first, then_begun, first_party, last_party, last_round, last_words}
use Rattle.spindle_rounds.proofs.RoundNumbers.{was_free, range_taken, begun_here}

-- a set of free numbers, which counters that hold the word `old` lose where the word becomes `new`
pub record Taking (t n i old new k from to : ℕ) (some : ℕ → Bool) : Type 0 where
  pub high : remainder_at ≤ i
  pub mine : some k ≡ true
  pub free : (S : State) (ws : List ℕ) → Counters t S ws n → get_or ws i 0 ≡ old → (j : ℕ) → some j ≡ true → Free S j
  pub less : (S : State) (id : ℕ) (ws : List ℕ) → Counters t S ws n → length ws ≡ words_of t → get_or ws i 0 ≡ old → Counters t (then_begun S id k some mine)
      (set ws i new) n
  pub kept : (j : ℕ) → (some j ≡ true → j ≢ k → (from ≤ j) × (j < to)) × ((from ≤ j) × (j < to) → (some j ≡ true) × (j ≢ k))

module _ {X N : Type 0} (D : Discipline X N) (law : Lawful D) (t slots id : ℕ) (me : SeatOf D t) (q n i old new k from to : ℕ) (some : ℕ → Bool)
    (take : Taking t n i old new k from to some)
    (inside_q : me.0.standing ≡ Inside q) (known : me.0.known.number ≡ Some n) (idle : me.0.claim ≡ None) (empty : me.0.to ≤ me.0.from)
    (unseen : me.0.known.seen_stop ≡ false) where
  -- the seat afterwards
  abbrev claimer : Option N → View N
  claimer x = record (beginning i k old new x me.0) { from = from; to = to }

  -- the exchange succeeds
  pub takes : (run : List Event) (s : table.State X (View N)) → Before D law t slots id me i run s → get_or s.words i 0 ≡ old
      → (x : Option N) × (a : Act X) × Valid s.homes me.1 a × Rule D t (claim_of id k some ++ run) (stepped s i new id me.1 (claimer x) a) × D.took k me.1 x
      (carried_after me.1 a)
  takes run s b hit = let r = b.rule in let at = b.at in let S : State = state run in let h = sound run r.is_run in let seat = r.seats id me.0 at in
      let shows = seat.0 in let st = subst (Stands S id) inside_q shows.stands in let knows = shows.inside q inside_q in
      let is_shown : S.published ≡ Some n = (knows.number n known).0 in let c = r.words.counters n is_shown in let is_free = take.free S s.words c hit in
      let S' : State = then_begun S id k some take.mine in let b' = law.begins S S' s.homes s.views id me.0 me.1 k claimer r.slots
      (begun_here S id k some take.mine run refl r.is_run n (is_free k take.mine) is_shown) at (λ o. (refl, refl, refl)) in
      let first = first_party S id k some take.mine in let last = last_party S id k some take.mine in
      let own : S.round ≡ round_of me.0.standing = st.1 ∙ sym (ap round_of inside_q) in
      let took : Allowed S (Take id some) = ((λ z. cc), st.0, knows.seen ∙ unseen, (k, take.mine), is_free) in
      let began : Allowed (taken_first S id k some take.mine) (Begin id k) = (
        ap (λ (z : Party). z.status) first ∙ st.0,
        knows.seen ∙ unseen,
        ap (λ (z : Party). z.running) first ∙ (shows.claim ∙ idle),
        ap (λ (z : Party). z.taken k) first ∙ or_right ((party S id).taken k) (some k) take.mine,
      ) in let none_held : (j : ℕ) → (party S id).taken j ≡ true → ⊥ = (λ j e. let z = (shows.share j).0 e in let z₀ = z.0 in let z₁ = z.1 in omega arith) in
      let y : ℕ → Bool = (with_some S id k some take.mine).taken in (
        b'.0,
        b'.1,
        b'.2,
        moves_with D t run s r i new id me (claimer b'.0) b'.1 (Begin id k ∷ Take id some ∷ []) at (refl, (refl, tt)) (began, (took, r.is_run))
            (last_words S id k some take.mine t s.words i new take.high r.words (λ m e. let same : n ≡ m = (let z = is_shown in cc) in
            subst (Counters t S' (set s.words i new)) same (take.less S id s.words c r.words.wide hit)))
            (shows_by (subst (Stands S' id) (sym inside_q) (ap (λ (z : Party). z.status) last ∙ st.0, st.1)) shows.leads (ap (λ (z : Party). z.running) last)
            (subst (λ (f : ℕ → Bool). IsShare f from to) (sym (ap (λ (z : Party). z.taken) last)) (λ j. dite (ℕ_discrete j k)
            (λ e. ((λ on. let a = put_here y k false in let b = ap (put y k false) e in absurd cc), (λ z. absurd (((take.kept j).1 z).1 e))))
            (λ apart. (
              (λ on. ⊎_elim (λ (z : some j ≡ true). (take.kept j).0 z apart)
                  (λ (z : some j ≡ false). absurd (none_held j (sym (or_false ((party S id).taken j) (some j) z) ∙ (sym (put_else y k false j apart) ∙ on))))
                  (true_or (some j))),
              (λ z. put_else y k false j apart ∙ or_right ((party S id).taken j) (some j) ((take.kept j).1 z).0),
            ))))
            (λ a e. knows_on knows refl (last_round S id k some take.mine) refl refl refl (λ j f. (was_free S id k some take.mine j f).1)))
            ((λ z. Began (sym own z) k ∷ seat.1 z) ∙ sym (ap (λ (b : Bool). (if b then Began S.round k ∷ [] else []) ++
            ((if b then [] else []) ++ deeds id run)) (eq-eqb id id refl))) refl
            (still_laid D t run s r i new id me (claimer b'.0) (Begin id k ∷ Take id some ∷ []) at (inr refl) refl refl (λ _. refl) (inr (λ z. cc))) b'.3,
        b'.4,
      )

-- the front of a range
pub one_of : (k j : ℕ) → only k j ≡ true → j ≡ k
one_of k j e = dite (ℕ_discrete j k) (λ z. z) (λ n. let a = ne_eqb j k n in absurd cc)

pub other_than : (k j : ℕ) → only k j ≡ false → j ≢ k
other_than k j e z = let a = eq-eqb j k z in absurd cc

front : (t n i old from to : ℕ) → i < t → old < 18446744073709551616 → old % high_half < old / high_half → to ≤ from → Taking t n (range_at i) old (old + 1)
    (old % high_half) from to (only (old % high_half))
front t n i old from to low small left empty = let k : ℕ = old % high_half in let some : ℕ → Bool = only k in let mine : some k ≡ true = eq-eqb k k refl in
    let within : (j : ℕ) → some j ≡ true → IsWithin old j = (λ j e. let z = one_of k j e in (omega arith, omega arith)) in record {
      high = omega arith;
      mine = mine;
      free = λ S ws c hit j e. c.ranges i j low (subst (λ (w : ℕ). IsWithin w j) (sym hit) (within j e));
      less = λ S id ws c wide hit. range_taken S id k some mine t n i old (old + 1) ws c low (omega arith) hit within
          (λ j z. let z₀ = z.0 in let z₁ = z.1 in ((omega arith, omega arith), ne_eqb j k (λ e. omega arith)))
          (λ j out z. let z₀ = z.0 in let z₁ = z.1 in let apart = other_than k j out in (omega arith, omega arith)) (omega arith);
      kept = λ j. ((λ e apart. absurd (apart (one_of k j e))), (λ z. let z₀ = z.0 in let z₁ = z.1 in absurd (omega arith)));
    }

module _ {X N : Type 0} (D : Discipline X N) (law : Lawful D) (t : ℕ) where
  pub claims : (slots id : ℕ) (me : SeatOf D t) (i old : ℕ) → i < t → MayClaim me.0 → old < 18446744073709551616 → old % high_half < old / high_half
      → Exchange D t slots id me (range_at i) old (old + 1) (claim_of id (start_of old) (only (start_of old))) (ClaimTells D)
  claims slots id me i old low may small left = begins_by D law t slots id me (range_at i) old (old + 1)
      (claim_of id (start_of old) (only (start_of old))) start_of (claiming (range_at i))
      (takes D law t slots id me may.0.0 may.1.0 (range_at i) old (old + 1) (old % high_half) me.0.from me.0.to (only (old % high_half))
      (front t may.1.0 i old me.0.from me.0.to low small left may.0.3) may.0.1 may.1.1 may.0.2 may.0.3 may.2)
