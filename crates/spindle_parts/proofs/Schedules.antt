-- After every schedule the machine shows the state of the run that its accepted steps are.
use Rattle.std.proofs.Common.{◌≡◌, ◌≢◌, ◌↔◌, ℕ, ◌*◌, ◌-◌, ◌<◌, Bool, true, false, List, [], ◌∷◌, ◌++◌, append_assoc, length, sym, refl, ap, ◌∙◌, subst, arith}
use Rattle.std.proofs.Common.{Option, Some, None, is_none, unwrap_or, if◌then◌else◌}
use Rattle.std.proofs.lemmas.List.{length-set, length-replicate}
use Rattle.spindle_parts.specs.State.{State}
use Rattle.spindle_parts.specs.Steps.{Event}
use Rattle.spindle_parts.specs.Runs.{state, IsRun}
use Rattle.spindle_parts.specs.BarrierWord as barrier
use Rattle.spindle_parts.specs.Machine.{Configuration, word, own, counter, claimed, rested, first, judged, tests, effect, answer, serve}
use Rattle.spindle_parts.specs.EverySchedule.{Call, IsInRange, IsSchedule, events_of, refusal, IsRefusedForMemory, played, accepted, history, Shows, IsFair}
use Rattle.spindle_parts.specs.EverySchedule.{machine, run_of, GoesOn, Laws}
use Rattle.spindle_parts.specs.declared.steps.Step.{Step}
use Rattle.spindle_parts.specs.declared.steps.Step.TheVariants.{Join, Publish, PublishTry, Claim, Rest, Finish, Stop, See, Arrive, Leave, Exit, Clear, End}
use Rattle.spindle_parts.specs.declared.steps.Why.{Why}
use Rattle.spindle_parts.specs.declared.steps.Why.TheVariants.{Member, Full, Closing, Memory}
use Rattle.spindle_parts.specs.declared.steps.Reply.TheVariants.{Refused}
use Rattle.spindle_parts.proofs.Soundness.{sound, alone_hidden}
use Rattle.spindle_parts.proofs.Waiting.{lawful}
use Rattle.spindle_parts.proofs.Tests.{all_fail, none_first}
use Rattle.spindle_parts.proofs.Following.{joins, leaves, arrives, ends, exits, clears, stops, looks, finishes}
use Rattle.spindle_parts.proofs.Claiming.{publishes, may_take, claims, rests}
use Rattle.spindle_parts.proofs.Fairness.{fair, fails}

-- no step changes how many counters there are
size_choice : (T : ℕ) (b : Bool) (x y : Configuration) → length x.counters ≡ T → length y.counters ≡ T → length (if b then x else y).counters ≡ T
size_choice T true x y e f = e
size_choice T false x y e f = f

same_size : (m : Configuration) (e : Step) → length (effect m e).counters ≡ length m.counters
same_size m (Publish p n) = length-replicate (length m.counters) (own m n)
same_size m (PublishTry p n) = length-replicate (length m.counters) (own m n)
same_size m (Claim p t) = length-set m.counters t (counter m t - 1)
same_size m (Exit p) = size_choice (length m.counters) _ _ _ refl refl
same_size m e = refl

-- the machine shows the state that a run ends in
pub record Follows (m : Configuration) (es : List Event) : Type 0 where
  pub shows : Shows m (state es)
  pub run : IsRun es

module _ (m : Configuration) (es : List Event) (f : Follows m es) (some : 0 < length m.counters) where
  -- an accepted step is allowed, and the machine shows the state after it
  accepts : (e : Step) → IsFair m (state es) e → Follows (effect m e) (events_of m e ++ es)
  accepts (Join p) ok = record { shows = joins f.shows (sound es f.run) p ok; run = (ok, f.run) }
  accepts (Publish p n) ok = record { shows = publishes f.shows (sound es f.run) p false n ok some; run = (ok, f.run) }
  accepts (PublishTry p n) ok = record { shows = publishes f.shows (sound es f.run) p true n ok some; run = (ok, f.run) }
  accepts (Claim p t) ok = let c = claims f.shows (sound es f.run) p some ok.0 t ok.1 ok.2 in let t₂ =
      may_take f.shows (sound es f.run) p (claimed m t) ok.0 c.1 in record { shows = c.0; run = (t₂.1, (t₂.0, f.run)) }
  accepts (Rest p) ok = let c = rests f.shows (sound es f.run) p some ok.0 ok.1 in let t₂ =
      may_take f.shows (sound es f.run) p (rested m) ok.0 c.1 in record { shows = c.0; run = (t₂.1, (t₂.0, f.run)) }
  accepts (Finish p) ok = record { shows = finishes f.shows (sound es f.run) p ok; run = (ok, f.run) }
  accepts (Stop p) ok = record { shows = stops f.shows (sound es f.run) p; run = (ok, f.run) }
  accepts (See p) ok = record { shows = looks f.shows (sound es f.run) p; run = (ok, f.run) }
  accepts (Arrive p) ok = record { shows = arrives f.shows (sound es f.run) p ok; run = (ok, f.run) }
  accepts (Leave p) ok = record { shows = leaves f.shows (sound es f.run) p ok; run = (ok, f.run) }
  accepts (Exit p) ok = let hidden = alone_hidden (state es) (sound es f.run) p ok.0 ok.2 in
      record { shows = exits f.shows (sound es f.run) p ok hidden; run = (ok, f.run) }
  accepts (Clear p) ok = record { shows = clears f.shows (sound es f.run) p; run = (ok, f.run) }
  accepts (End p) ok = record { shows = ends f.shows (sound es f.run) p ok; run = (ok, f.run) }

  -- a step next is accepted exactly where it is fair
  exactly : (e : Step) → IsInRange e → (first (tests m true e) ≡ None) ↔ IsFair m (state es) e
  exactly e range = let passes = fair f.shows (sound es f.run) some true e range in let ts : List (Why × Bool) = tests m true e in
      ((λ z. passes (all_fail ts z)), (λ ok. none_first ts (fails f.shows (sound es f.run) some e ok)))

  served : (c : Call)
      → IsInRange c.step → (o : Option Why) → refusal m c ≡ o → Follows (judged o m c.step).0 ((if is_none o then events_of m c.step else []) ++ es)
  served c range None e = accepts c.step (fair f.shows (sound es f.run) some c.granted c.step range (all_fail (tests m c.granted c.step) e))
  served c range (Some why) e = f

  -- the next call
  pub goes_on : (c : Call) → IsInRange c.step → Follows (serve m c.granted c.step).0 (accepted m c ++ es)
  goes_on c range = served c range (refusal m c) refl

served_size : (m : Configuration) (e : Step) (o : Option Why) → length (judged o m e).0.counters ≡ length m.counters
served_size m e None = same_size m e
served_size m e (Some why) = refl

pub size_is : (threads : ℕ) (cs : List Call) → length (machine threads cs).counters ≡ threads
size_is threads [] = length-replicate threads 0
size_is threads (c ∷ cs) = served_size (machine threads cs) c.step (refusal (machine threads cs) c) ∙ size_is threads cs

pub follows : (threads : ℕ) (cs : List Call) → 0 < threads → IsSchedule cs → Follows (machine threads cs) (run_of threads cs)
follows threads [] some ok = record {
  shows = record {
    status = λ p. refl;
    running = λ p. refl;
    seen = λ p. refl;
    untaken = λ p k. refl;
    inside = refl;
    members = refl;
    sense = refl;
    closer = refl;
    published = refl;
    stoppable = refl;
    stopped = refl;
    counts = λ n e. absurd cc;
  };
  run = tt;
}
follows threads (c ∷ cs) some ok = let size = size_is threads cs in
    goes_on (machine threads cs) (run_of threads cs) (follows threads cs some ok.1) (omega arith) c ok.0

-- a schedule goes on from wherever the machine follows a run
goes : (m : Configuration) (es : List Event) (later : List Call)
    → 0 < length m.counters → IsSchedule later → Follows m es → (0 < length (played m later).counters) × Follows (played m later) (history m later ++ es)
goes m es [] some ok f = (some, f)
goes m es (c ∷ later) some ok f = let g = goes m es later some ok.1 f in
    let size = served_size (played m later) c.step (refusal (played m later) c) in let g₀ = g.0 in
    let next = goes_on (played m later) (history m later ++ es) g.1 g.0 c ok.0 in
    (omega arith, subst (Follows (played m (c ∷ later))) (sym (append_assoc (accepted (played m later) c) (history m later) es)) next)

-- the word is the barrier word of the state shown
same_word : (m : Configuration) (s : State) → Shows m s → word m ≡ barrier.word s
same_word m s a = let i = a.inside in let n = a.members in let o = bit m.sense in let r = a.sense in omega arith
  where
    bit : (b : Bool) → (if b then 2147483648 else 0) ≡ 2147483648 * (if b then 1 else 0)
    bit true = refl
    bit false = refl

-- want of memory comes last among a join's tests
memory_last : (a b c : Bool) → let o : Option Why = None in
    (if a then Some Member else (if b then Some Full else (if c then Some Closing else Some Memory))) ≡ Some
    (unwrap_or (if a then Some Member else (if b then Some Full else (if c then Some Closing else o))) Memory)
memory_last false false false = refl
memory_last a b c = refl

refused_for_memory : (m : Configuration) (e : Step) → IsRefusedForMemory m e
refused_for_memory m (Join p) = memory_last _ _ _
refused_for_memory m e = refl

-- an accepted step isn't answered by a refusal
pub no_refusal : (m : Configuration) (e : Step) (why : Why) → answer m e ≢ Refused why
no_refusal m (Join p) why e = cc
no_refusal m e why is = cc

refused_by : (m : Configuration) (e : Step) (why : Why) (o : Option Why) → (judged o m e).1 ≡ Refused why → (o ≡ Some why) × ((judged o m e).0 ≡ m)
refused_by m e why None z = absurd (no_refusal m e why z)
refused_by m e why (Some w) z = ((let i : w ≡ why = cc in ap (λ (x : Why). let o : Option Why = Some x in o) i), refl)

goes_on_law : (m : Configuration) (es : List Event) → Follows m es → 0 < length m.counters → (later : List Call) → IsSchedule later → GoesOn m es later
goes_on_law m es f some later ok = let g = (goes m es later some ok f).1 in
    record { run = g.run; word_is = same_word (played m later) (state (history m later ++ es)) g.shows }

pub laws : (threads : ℕ) (cs : List Call) → 0 < threads → IsSchedule cs → Laws threads (machine threads cs) (run_of threads cs)
laws threads cs some ok = let m = machine threads cs in let es = run_of threads cs in
    let f = follows threads cs some ok in let size = size_is threads cs in let pos : 0 < length (machine threads cs).counters = omega arith in record {
      run = f.run;
      lawful = lawful es f.run;
      shows = f.shows;
      word_is = same_word m (state es) f.shows;
      counters = size;
      exact = exactly m es f pos;
      memory = refused_for_memory m;
      refused = λ c why e. refused_by m c.step why (refusal m c) e;
      goes_on = goes_on_law m es f pos;
    }
