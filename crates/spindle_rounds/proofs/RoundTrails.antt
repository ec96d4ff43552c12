-- The trails of all seats together tell what the run has begun and finished.
use Rattle.std.proofs.Common.{◌≡◌, ◌≢◌, ℕ, zero, suc, ◌+◌, ◌<◌, ◌≤◌, Bool, true, false, eq-eqb, ne_eqb, List, [], ◌∷◌, ◌++◌, length, sym, refl, ap, ◌∙◌, arith}
use Rattle.std.proofs.Common.{Option, Some, None, if◌then◌else◌, ◌==◌}
use mathlib.Core.Logic.{dite}
use mathlib.Core.Option.{some}
use native.Mathlib.Decide.{dec_le}
use lib.ListN.{get_elem?}
use Rattle.spindle_parts.specs.State.{State, Round, put, now, party, times}
use Rattle.spindle_parts.specs.Steps.{Event, Publish, PublishTry, Begin, Finish, Stop, Allowed, after, by, ended_by}
use Rattle.spindle_parts.specs.Runs.{state, IsRun}
use Rattle.spindle_parts.proofs.Parties.{put_all}
use Rattle.spindle_parts.proofs.Soundness.{Sound, sound}
use Rattle.spindle_rounds.specs.declared.round_table.view.View.{View}
use Rattle.spindle_rounds.specs.RoundShown.{Deed, deed, deeds, deeds_of, ended_in, stopped_by}
use Rattle.spindle_rounds.specs.RoundTrails.{begun_by, finished_by, told, told_by_all}
use Rattle.spindle_rounds.proofs.RoundQuiet.{IsQuiet, quiet}

-- the sum of f over the numbers below n
abbrev pub sum : ℕ → (ℕ → ℕ) → ℕ
sum zero f = 0
sum (suc n) f = f 0 + sum n (λ i. f (suc i))

pub sum_zero : (n : ℕ) → sum n (λ _. 0) ≡ 0
sum_zero zero = refl
sum_zero (suc n) = let a = sum_zero n in omega arith

sum_same : (n : ℕ) (f g : ℕ → ℕ) → ((i : ℕ) → i < n → f i ≡ g i) → sum n f ≡ sum n g
sum_same zero f g e = refl
sum_same (suc n) f g e = let a = e 0 (omega arith) in let b = sum_same n (λ i. f (suc i)) (λ i. g (suc i)) (λ i lt. e (suc i) (omega arith)) in omega arith

-- where f is c more at a, its sum is
pub sum_more : (n a c : ℕ) (f g : ℕ → ℕ) → a < n → f a ≡ c + g a → ((i : ℕ) → i ≢ a → f i ≡ g i) → sum n f ≡ c + sum n g
sum_more zero a c f g lt here away = absurd (omega arith)
sum_more (suc n) zero c f g lt here away = let b = sum_same n (λ i. f (suc i)) (λ i. g (suc i)) (λ i _. away (suc i) (λ e. omega arith)) in omega arith
sum_more (suc n) (suc a) c f g lt here away =
    let b = sum_more n a c (λ i. f (suc i)) (λ i. g (suc i)) (omega arith) here (λ i ne. away (suc i) (λ e. ne (omega arith))) in
    let z = away 0 (λ e. omega arith) in omega arith

pub times_cat : (k : ℕ) (xs ys : List ℕ) → times k (xs ++ ys) ≡ times k xs + times k ys
times_cat k [] ys = omega arith
times_cat k (x ∷ xs) ys = let a = times_cat k xs ys in omega arith

none_left : (xs ys : List Deed) → xs ++ ys ≡ [] → (xs ≡ []) × (ys ≡ [])
none_left [] ys e = (refl, e)
none_left (x ∷ xs) ys e = absurd cc

told_cat : (k : ℕ) (f : Deed → List ℕ) (xs ys : List Deed) → times k (told f (xs ++ ys)) ≡ times k (told f xs) + times k (told f ys)
told_cat k f [] ys = omega arith
told_cat k f (x ∷ xs) ys = let a = told_cat k f xs ys in let b = times_cat k (f x) (told f (xs ++ ys)) in let c = times_cat k (f x) (told f xs) in omega arith

-- numbers of the round r, to which each event adds those that its deed tells of
module _ (k r : ℕ) (f : Deed → List ℕ) (of : Round → List ℕ) where
  abbrev Adds : Type 0
  Adds = (s : State) → Sound s → (e : Event) → Allowed s e → times k (of ((after s e).rounds r)) ≡ times k (told f (deed s e)) + times k (of (s.rounds r))

  abbrev count : List Event → ℕ → ℕ
  count run p = times k (told f (deeds p run))

  pub counted : Adds → times k (of ((state []).rounds r)) ≡ 0 → (n : ℕ) (run : List Event) → IsRun run
      → ((p : ℕ) → n ≤ p → deeds p run ≡ []) → sum n (count run) ≡ times k (of ((state run).rounds r))
  counted adds none n [] ok beyond = sum_zero n ∙ sym none
  counted adds none n (e ∷ es) ok beyond = let s : State = state es in
      let older : sum n (count es) ≡ times k (of (s.rounds r)) = counted adds none n es ok.1 (λ p le. (none_left _ _ (beyond p le)).1) in
      let new = adds s (sound es ok.1) e ok.0 in let its = eq-eqb (by e) (by e) refl in
      let both : Bool → ℕ → List Deed = λ b p. (if b then deed s e else []) ++ deeds p es in
      let here : count (e ∷ es) (by e) ≡ times k (told f (deed s e)) + count es (by e) =
      ap (λ b. times k (told f (both b (by e)))) its ∙ told_cat k f (deed s e) (deeds (by e) es) in
      let away : (p : ℕ) → p ≢ by e → count (e ∷ es) p ≡ count es p =
      λ p ne. ap (λ b. times k (told f (both b p))) (ne_eqb (by e) p (λ z. ne (sym z))) in dite (dec_le n (by e))
      (λ le.
      let no_deed = (none_left (deed s e) (deeds (by e) es) (ap (λ b. both b (by e)) (sym its) ∙ beyond (by e) le)).0 in
      let nothing = ap (λ l. times k (told f l)) no_deed in let same = sum_same n (count (e ∷ es)) (count es) (λ p lt. away p (λ z. omega arith)) in
      omega arith)
      (λ no. let more = sum_more n (by e) (times k (told f (deed s e))) (count (e ∷ es)) (count es) (omega arith) here away in omega arith)

-- an event publishes, begins, finishes or stops, or has no deed
pub by_deed : (s : State) (P : Event → Type 0) → ((e : Event) → IsQuiet e → deed s e ≡ [] → P e) → ((p n : ℕ) → P (Publish p n))
    → ((p n : ℕ) → P (PublishTry p n)) → ((p k : ℕ) → P (Begin p k)) → ((p : ℕ) → P (Finish p)) → ((p : ℕ) → P (Stop p)) → (e : Event) → P e
by_deed s P none shows tries begins ends stops (Publish p n) = shows p n
by_deed s P none shows tries begins ends stops (PublishTry p n) = tries p n
by_deed s P none shows tries begins ends stops (Begin p k) = begins p k
by_deed s P none shows tries begins ends stops (Finish p) = ends p
by_deed s P none shows tries begins ends stops (Stop p) = stops p
by_deed s P none shows tries begins ends stops e = none e tt refl

-- the round that goes on, with what a party has run among the finished
abbrev done : State → Option ℕ → Round
done s o = record (now s) { finished = (now s).finished ++ ended_by o }

-- the record of the round that goes on becomes x
module _ (k r : ℕ) (of : Round → List ℕ) (s : State) (x : Round) where
  same_there : times k (of x) ≡ times k (of (now s)) → times k (of (put s.rounds s.round x r)) ≡ 0 + times k (of (s.rounds r))
  same_there e = put_all (λ a y. times k (of y) ≡ 0 + times k (of (s.rounds a))) s.rounds s.round x (omega arith) (λ a ne. omega arith) r

  -- with one number more
  one_more : (j : ℕ) → of x ≡ of (now s) ++ j ∷ [] → let one : List ℕ = if s.round == r then j ∷ [] else [] in
      times k (of (put s.rounds s.round x r)) ≡ times k (one ++ []) + times k (of (s.rounds r))
  one_more j e = let one : Bool → List ℕ = λ b. if b then j ∷ [] else [] in
      put_all (λ a y. times k (of y) ≡ times k (one (s.round == a) ++ []) + times k (of (s.rounds a))) s.rounds s.round x
      (let a = ap (times k) e ∙ times_cat k (of (now s)) (j ∷ []) in let b = ap (λ b. times k (one b ++ [])) (eq-eqb s.round s.round refl) in omega arith)
      (λ a ne. let b = ap (λ b. times k (one b ++ [])) (ne_eqb s.round a (λ z. ne (sym z))) in omega arith)
      r

module _ (k r : ℕ) where
  pub begun_adds : Adds k r (begun_by r) (λ (x : Round). x.begun)
  begun_adds s h = by_deed s (λ e. Allowed s e → times k ((after s e).rounds r).begun ≡ times k (told (begun_by r) (deed s e)) + times k (s.rounds r).begun)
      (λ e q none ok. let a = (quiet s h e q ok).begun r k in let b = ap (λ l. times k (told (begun_by r) l)) none in omega arith)
      (λ p n ok. same (record (now s) { jobs = n; stoppable = false }) refl)
      (λ p n ok. same (record (now s) { jobs = n; stoppable = true }) refl)
      (λ p j ok. one_more k r (λ (x : Round). x.begun) s (record (now s) { begun = (now s).begun ++ j ∷ [] }) j refl)
      (λ p ok. let a = same (done s (party s p).running) refl in let b = none_begun (party s p).running in omega arith)
      (λ p ok. let a = (quiet s h (Stop p) tt ok).begun r k in let b = none_stopped (party s p).running in omega arith)
    where
      same : (x : Round) → times k x.begun ≡ times k (now s).begun → times k (put s.rounds s.round x r).begun ≡ 0 + times k (s.rounds r).begun
      same = same_there k r (λ (x : Round). x.begun) s

      none_begun : (o : Option ℕ) → times k (told (begun_by r) (ended_in s.round o)) ≡ 0
      none_begun None = refl
      none_begun (Some j) = refl

      none_stopped : (o : Option ℕ) → times k (told (begun_by r) (stopped_by s.round o)) ≡ 0
      none_stopped None = refl
      none_stopped (Some j) = refl

  finished_adds : Adds k r (finished_by r) (λ (x : Round). x.finished)
  finished_adds s h =
      by_deed s (λ e. Allowed s e → times k ((after s e).rounds r).finished ≡ times k (told (finished_by r) (deed s e)) + times k (s.rounds r).finished)
      (λ e q none ok. let a = (quiet s h e q ok).finished r k in let b = ap (λ l. times k (told (finished_by r) l)) none in omega arith)
      (λ p n ok. same (record (now s) { jobs = n; stoppable = false }) refl)
      (λ p n ok. same (record (now s) { jobs = n; stoppable = true }) refl)
      (λ p j ok. same (record (now s) { begun = (now s).begun ++ j ∷ [] }) refl)
      (λ p ok. ran (party s p).running)
      (λ p ok. let a = (quiet s h (Stop p) tt ok).finished r k in let b = none_stopped (party s p).running in omega arith)
    where
      same : (x : Round) → times k x.finished ≡ times k (now s).finished → times k (put s.rounds s.round x r).finished ≡ 0 + times k (s.rounds r).finished
      same = same_there k r (λ (x : Round). x.finished) s

      none_stopped : (o : Option ℕ) → times k (told (finished_by r) (stopped_by s.round o)) ≡ 0
      none_stopped None = refl
      none_stopped (Some j) = refl

      ran : (o : Option ℕ) → times k (put s.rounds s.round (done s o) r).finished
          ≡ times k (told (finished_by r) (ended_in s.round o)) + times k (s.rounds r).finished
      ran None = same (done s None) (let a = times_cat k (now s).finished [] in omega arith)
      ran (Some j) = one_more k r (λ (x : Round). x.finished) s (done s (Some j)) j refl

module _ {N : Type 0} (k : ℕ) (f : Deed → List ℕ) where
  -- each seat tells of its party's deeds
  seats_tell : (vs : List (View N)) (ds : ℕ → List Deed) → ((p : ℕ) (v : View N) → get_elem? vs p ≡ some v → deeds_of v.trail ≡ ds p)
      → times k (told_by_all f vs) ≡ sum (length vs) (λ p. times k (told f (ds p)))
  seats_tell [] ds e = refl
  seats_tell (v ∷ vs) ds e = let a = times_cat k (told f (deeds_of v.trail)) (told_by_all f vs) in
      let b = seats_tell vs (λ p. ds (suc p)) (λ p u at. e (suc p) u at) in let c = ap (λ (l : List Deed). times k (told f l)) (e 0 v refl) in omega arith

module _ {N : Type 0} (k r : ℕ) (run : List Event) (ok : IsRun run) (vs : List (View N))
    (trails : (p : ℕ) (v : View N) → get_elem? vs p ≡ some v → deeds_of v.trail ≡ deeds p run)
    (beyond : (p : ℕ) → length vs ≤ p → deeds p run ≡ []) where
  pub trails_begun : times k (told_by_all (begun_by r) vs) ≡ times k ((state run).rounds r).begun
  trails_begun = seats_tell k (begun_by r) vs (λ p. deeds p run) trails
      ∙ counted k r (begun_by r) (λ (x : Round). x.begun) (begun_adds k r) refl (length vs) run ok beyond

  pub trails_finished : times k (told_by_all (finished_by r) vs) ≡ times k ((state run).rounds r).finished
  trails_finished = seats_tell k (finished_by r) vs (λ p. deeds p run) trails
      ∙ counted k r (finished_by r) (λ (x : Round). x.finished) (finished_adds k r) refl (length vs) run ok beyond
