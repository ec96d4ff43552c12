-- What holds of a configuration that some schedule leads to: each subtraction and sum of the next step fits.
use Rattle.std.proofs.Common.{◌≡◌, ◌≢◌, ℕ, zero, suc, inr, ◌+◌, ◌<◌, ◌≤◌, Bool, true, false, ◌||◌, eqb, ne_eqb, List, [], ◌∷◌, ◌++◌, length, length-append, sym}
use Rattle.std.proofs.Common.{refl, ap, ◌∙◌, subst, arith, Option, Some}
use Rattle.std.proofs.Math.Nat.{mod-le}
use Rattle.std.specs.List.{list_any, IsDistinct, AllByRecursion}
use Rattle.std.proofs.lemmas.Map.Keys.{IsDistinct-cons}
use Rattle.std.proofs.lemmas.Map.Steps.{length-le_from_distinct_below}
use Rattle.spindle_parts.specs.State.{Out, In, Party, Round, State, times, is_in, is_member, weight_in, weight_member, party_of, put_party, now, party}
use Rattle.spindle_parts.specs.State as state
use Rattle.spindle_parts.specs.Steps.{Event, Finish, ended_by, with_status}
use Rattle.spindle_parts.specs.Runs.{state, IsRun}
use Rattle.spindle_parts.specs.Machine.{Configuration, status, is_inside, is_waiting, counter, own}
use Rattle.spindle_parts.specs.EverySchedule.{machine, run_of}
use Rattle.spindle_parts.specs.Registers.{IsReached}
use Rattle.spindle_parts.proofs.Parties.{by_equal, by_option, total_at, total_put, look_else, inside_le_members, in_le_member, tick_same, tick_else, put_here}
use Rattle.spindle_parts.proofs.Fates.{over}
use Rattle.spindle_parts.proofs.Soundness.{sound, run_once, no_closer, no_jobs, none_in, out_of}
use Rattle.spindle_parts.proofs.Tests.{in_by, waiting_by}
use Rattle.spindle_parts.proofs.Schedules.{Follows, follows, size_is}

-- what the next step needs
pub record Bounds (m : Configuration) : Type 0 where
  pub inside : m.inside ≤ m.members
  pub members : m.members ≤ 32767
  pub in_counts : (p : ℕ) → is_inside (status m p) ≡ true → (0 < m.inside) × (0 < m.members)
  pub waiting_counts : (p : ℕ) → is_waiting (status m p) ≡ true → m.inside < m.members
  pub closed : (p q : ℕ) → m.closer ≡ Some p → status m q ≢ In
  pub alone : (p q : ℕ) → is_inside (status m p) ≡ true → m.members ≡ 1 → q ≢ p → status m q ≡ Out
  pub counters : (n : ℕ) → m.published ≡ Some n → (t : ℕ) → t < length m.counters → counter m t ≤ own m n
  pub rest_fits : (n : ℕ) → m.published ≡ Some n → m.remainder ≤ n
  pub finishes : (p k : ℕ) → (m.seat p).running ≡ Some k → m.finished < 4294967295
  pub some : 0 < length m.counters
  pub few : length m.counters ≤ 32767

-- a list with no number twice is free of repeats
absent_all : (x : ℕ) (xs : List ℕ) → times x xs ≡ 0 → AllByRecursion (λ y. eqb x y ≡ false) xs
absent_all x [] z = tt
absent_all x (y ∷ ys) z = by_equal y x (λ e. let a = tick_same x in let b = ap (λ (i : ℕ). times x (i ∷ ys)) e in absurd (omega arith))
    (λ n. (ne_eqb x y (λ e. n (sym e)), absent_all x ys (let a = tick_else y x n in omega arith)))

no_repeats : (xs : List ℕ) → ((k : ℕ) → times k xs ≤ 1) → IsDistinct eqb xs
unfolding IsDistinct
no_repeats [] once = tt
no_repeats (x ∷ xs) once =
    IsDistinct-cons eqb x xs (absent_all x xs (let a = once x in let b = tick_same x in omega arith)) (no_repeats xs (λ k. let a = once k in omega arith))

some_times : (q : ℕ) (xs : List ℕ) → list_any (eqb q) xs ≡ true → 0 < times q xs
some_times q [] e = absurd cc
some_times q (x ∷ xs) e = by_equal x q (λ i. let a = tick_same q in let b = ap (λ (z : ℕ). times q (z ∷ xs)) i in omega arith)
    (λ n. let a = some_times q xs (sym (ap (λ (b : Bool). b || list_any (eqb q) xs) (ne_eqb q x (λ i. n (sym i)))) ∙ e) in omega arith)

-- with one more finished the numbers are below the jobs, so they are at most as many
room_to_finish : (es : List Event)
    → IsRun es → (p k : ℕ) → (party (state es) p).running ≡ Some k → (n : ℕ) → (state es).published ≡ Some n → length (now (state es)).finished < 4294967295
room_to_finish es run p k runs n shown = let es' : List Event = Finish p ∷ es in
    let run' : IsRun es' = ((k, runs), run) in let h = sound es run in let h' = sound es' run' in
    let r : Round = record (now (state es)) { finished = (now (state es)).finished ++ ended_by (party (state es) p).running } in
    let here : now (state es') ≡ r = put_here (state es).rounds (state es).round r in
    let all = (now (state es')).finished in let g = h.gate.shown n shown in let g₀ = g.0 in let g₂ = g.2 in let jobs = ap (λ (x : Round). x.jobs) here in
    let most : length all ≤ n =
    length-le_from_distinct_below all n (no_repeats all (λ j. let a = run_once es' run' (state es).round j in let a₀ = a.0 in let a₁ = a.1 in omega arith))
    (λ q e. let lt = some_times q all e in
    let b = h'.work.finished q in let c = h'.work.below q (λ o. let c = ap over o in absurd (omega arith)) in omega arith) in
    let grown : length all ≡ length r.finished = ap (λ (x : Round). length x.finished) here in
    let one = length-append (now (state es)).finished (ended_by (party (state es) p).running) in
    let l = ap (λ (o : Option ℕ). length (ended_by o)) runs in omega arith

-- while a party runs a job, something is published
running_shown : (es : List Event) → IsRun es → (p k : ℕ) → (party (state es) p).running ≡ Some k → (n : ℕ) × ((state es).published ≡ Some n)
running_shown es run p k runs = by_option (state es).published (λ e. let h = sound es run in let f = h.work.fits p in let ran = f.ran k runs in
    let lt = h.work.below k (λ o. cc) in let none = no_jobs (state es) h p e (no_closer (state es) h p (f.within k (inr ran))) in absurd (omega arith))
    (λ n e. (n, e))

-- what is in, or has arrived, is counted
counted : (s : State) (p : ℕ) → (is_in (party s p).status ≤ state.inside s.parties) × (is_member (party s p).status ≤ state.members s.parties)
    × (state.inside s.parties + is_member (party s p).status ≤ state.members s.parties + is_in (party s p).status)
counted s p = (total_at weight_in refl s.parties p, total_at weight_member refl s.parties p, others s.parties p)
  where
    others : (ps : List Party) (p : ℕ) → state.inside ps + is_member (party_of ps p).status ≤ state.members ps + is_in (party_of ps p).status
    others [] p = omega arith
    others (x ∷ xs) zero = let a = in_le_member x.status in let b = inside_le_members xs in omega arith
    others (x ∷ xs) (suc p) = let a = in_le_member x.status in let b = others xs p in omega arith

bounds_of : (m : Configuration) (es : List Event) → Follows m es → 0 < length m.counters → length m.counters ≤ 32767 → Bounds m
bounds_of m es f some few = let a = f.shows in
    let h = sound es f.run in let i = a.inside in let n = a.members in let le = inside_le_members (state es).parties in let most = h.gate.few in record {
      inside = omega arith;
      members = omega arith;
      in_counts = λ p t. let e = sym (a.status p) ∙ in_by (status m p) t in
          let c = counted (state es) p in let c₀ = c.0 in let c₁ = c.1 in let b₀ = ap is_in e in let b₁ = ap is_member e in (omega arith, omega arith);
      waiting_counts = λ p t. let e = sym (a.status p) ∙ waiting_by (status m p) t in
          let c = counted (state es) p in let c₂ = c.2 in let b₀ = ap is_in e in let b₁ = ap is_member e in omega arith;
      closed = λ p q e i. none_in (state es).parties (h.gate.closing p (sym a.closer ∙ e)).0 q (sym (a.status q) ∙ i);
      alone = λ p q t one other. let e = sym (a.status p) ∙ in_by (status m p) t in let ps : List Party = (state es).parties in
          let c = total_put weight_member refl ps p (with_status Out (party (state es) p)) in let b = ap is_member e in
          let here = total_at weight_member refl (put_party ps p (with_status Out (party (state es) p))) q in
          a.status q ∙ (sym (ap (λ (x : Party). x.status) (look_else ps p (with_status Out (party (state es) p)) q other))
          ∙ out_of (party_of (put_party ps p (with_status Out (party (state es) p))) q).status (omega arith));
      counters = λ k e t lt. (a.counts k (sym a.published ∙ e)).own_at_most t lt;
      rest_fits = λ k e. let r = (a.counts k (sym a.published ∙ e)).rest_at_most in let l = mod-le k (length m.counters) in omega arith;
      finishes = λ p k e. let runs = sym (a.running p) ∙ e in
          let x = running_shown es f.run p k runs in let c = (a.counts x.0 x.1).finished in let r = room_to_finish es f.run p k runs x.0 x.1 in omega arith;
      some = some;
      few = few;
    }

pub bounds : (m : Configuration) → IsReached m → Bounds m
bounds m r = subst Bounds (sym r.leads) (let some = r.some in let few = r.few in let size = size_is r.threads r.calls in
    bounds_of (machine r.threads r.calls) (run_of r.threads r.calls) (follows r.threads r.calls r.some r.schedule) (omega arith) (omega arith))
