-- From what a step of the registers does to what the machine's step does: its answer, and that a schedule leads on.
use Rattle.std.proofs.Common.{◌≡◌, ◌≢◌, ℕ, ◌<◌, ◌≤◌, Bool, true, false, not, ◌&&◌, List, [], ◌∷◌, sym, refl, ap, ◌∙◌, subst, Option, Some, None, Result, Ok}
use Rattle.std.proofs.Common.{Err, IfOk, if◌then◌else◌}
use Rattle.spindle_parts.specs.Machine.{Configuration, initial, word, first, judged, tests, effect, answer, serve}
use Rattle.spindle_parts.specs.EverySchedule.{IsInRange}
use Rattle.spindle_parts.specs.Registers.{shown, IsReached, IsTidy, IsSteady}
use Rattle.spindle_parts.specs.Contents.{Contents, contents, configuration, IsFirstJoin, Remembers}
use Rattle.spindle_parts.specs.Entries.{KeepsKnown}
use Rattle.spindle_parts.specs.Serving.{Serves, Replies, IsServed}
use Rattle.spindle_parts.specs.declared.steps.Step.{Step}
use Rattle.spindle_parts.specs.declared.steps.Step.TheVariants.{Join}
use Rattle.spindle_parts.specs.declared.steps.Why.{Why}
use Rattle.spindle_parts.specs.declared.steps.Why.TheVariants.{Memory}
use Rattle.spindle_parts.specs.declared.steps.Reply.{Reply}
use Rattle.spindle_parts.specs.declared.steps.Reply.TheVariants.{Word, Job, Refused}
use Rattle.spindle_parts.specs.declared.steps.Machine.TheInside.{Inside}
use Rattle.spindle_parts.specs.declared.steps.registers.Registers.{Registers}
use Rattle.spindle_parts.proofs.Tests.{and_left, and_right}
use Rattle.spindle_parts.proofs.Schedules.{no_refusal}

-- what holds of any value holds of one that is there
pub always : {T : Type 0} (P : T → Type 0) → ((x : T) → P x) → (o : Result T Why) → IfOk o P
always P each (Ok x) = each x
always P each (Err why) = tt

-- an accepted claim answers with its job
job_is : (w j : ℕ) {b : Reply} (o : Result ℕ Why) → IfOk o (λ k. k ≡ j) → Job w j ≡ b → IfOk o (λ k. Job w k ≡ b)
job_is w j (Ok k) e form = ap (λ (x : ℕ). Job w x) e ∙ form
job_is w j (Err why) e form = tt

-- the fresh machine is reached by no call
pub starts : (threads : ℕ) (m : Configuration) → 0 < threads → threads ≤ 32767 → m ≡ initial threads → IsReached m
starts threads m some few is = record { threads = threads; calls = []; some = some; few = few; schedule = tt; leads = is }

-- a schedule leads on
reached_by : (m m' : Configuration) (g : Bool) (e : Step) → IsReached m → IsInRange e → first (tests m g e) ≡ None → m' ≡ effect m e → IsReached m'
reached_by m m' g e r range none is = record {
  threads = r.threads;
  calls = record { step = e; granted = g } ∷ r.calls;
  some = r.some;
  few = r.few;
  schedule = (range, r.schedule);
  leads = is ∙ (sym (ap (λ (o : Option Why). (judged o m e).0) none) ∙ ap (λ (x : Configuration). (serve x g e).0) r.leads);
}

-- is it want of memory?
is_memory : Why → Bool
is_memory Memory = true
is_memory why = false

-- no test that is true refuses for memory
spared : List (Why × Bool) → Bool
spared [] = true
spared (t ∷ ts) = not (is_memory t.0 && t.1) && spared ts

never : (ts : List (Why × Bool)) → spared ts ≡ true → first ts ≢ Some Memory
unfolding is_memory spared
never [] s e = cc
never (t ∷ ts) s e = go t.0 t.1 (and_left _ _ s) (never ts (and_right _ _ s)) e
  where
    go : (why : Why) (b : Bool) → not (is_memory why && b) ≡ true → first ts ≢ Some Memory → (if b then Some why else first ts) ≢ Some Memory
    go why false s n e = n e
    go why true s n e = let same : why ≡ Memory = cc in let z = ap (λ (w : Why). not (is_memory w && true)) same in cc

-- where a growth is granted no step is refused for memory
granted_never : (m : Configuration) (e : Step) → first (tests m true e) ≢ Some Memory
unfolding is_memory spared
granted_never m (Join p) = never (tests m true (Join p)) refl
granted_never m e = never (tests m true e) refl

-- a call on the registers, from r to r', is this step
pub record Makes {T : Type 0} (r r' : Registers) (g : Bool) (e : Step) (o : Result T Why) : Type 0 where
  pub range : IfOk o (λ _. IsInRange e)
  pub served : Serves r g e r' o
  pub tidy : IsTidy r'
  pub known : KeepsKnown r.entries r'.entries
  pub first : o ≡ Err Memory → IsFirstJoin (contents r) e

-- the machine's step from the contents v, answered by a
pub record Stepped (v : Contents) (e : Step) (x : Inside) (a : Reply) : Type 0 where
  pub steady : IsSteady x.registers
  pub served : IsServed (configuration v) e (configuration (contents x.registers)) a
  pub refused : (why : Why) → a ≡ Refused why → contents x.registers ≡ v
  pub memory : a ≡ Refused Memory → IsFirstJoin v e
  pub known : Remembers v (contents x.registers)

module _ {T : Type 0} (r r' : Registers) (g : Bool) (e : Step) (f : T → ℕ → Reply) (b : Reply) (before : IsSteady r) where
  -- an accepted step answers by the word after it, in the form that f gives
  stepped : (o : Result T Why) → Makes r r' g e o → Replies f (shown r') o b → IfOk o (λ x. f x (word (effect (shown r) e)) ≡ answer (shown r) e)
      → Stepped (contents r) e (record { registers = r' }) b
  stepped (Ok x) k a form =
      let judge = ap (λ (o : Option Why). judged o (shown r) e) k.served.0 in
      let reply : b ≡ answer (shown r) e = a ∙ (ap (λ (m : Configuration). f x (word m)) k.served.1 ∙ form) in record {
        steady = record { reached = reached_by (shown r) (shown r') g e before.reached k.range k.served.0 k.served.1; tidy = k.tidy };
        served = (g, k.served.1 ∙ sym (ap (λ (p : Configuration × Reply). p.0) judge), reply ∙ sym (ap (λ (p : Configuration × Reply). p.1) judge));
        refused = λ why z. absurd (no_refusal (shown r) e why (sym reply ∙ z));
        memory = λ z. absurd (no_refusal (shown r) e Memory (sym reply ∙ z));
        known = k.known;
      }
  stepped (Err why) k a form =
      let judge = ap (λ (o : Option Why). judged o (shown r) e) k.served.0 in
      let same : shown r' ≡ shown r = ap configuration k.served.1 in record {
        steady = record { reached = subst IsReached (sym same) before.reached; tidy = k.tidy };
        served = (g, same ∙ sym (ap (λ (p : Configuration × Reply). p.0) judge), a ∙ sym (ap (λ (p : Configuration × Reply). p.1) judge));
        refused = λ _ _. k.served.1;
        memory = λ z. k.first (let same : why ≡ Memory = cc in ap (λ (w : Why). let o : Result T Why = Err w in o) same);
        known = k.known;
      }

-- a call that isn't a join is granted all growth
plain : {T : Type 0} (r r' : Registers) (e : Step) (o : Result T Why) → Serves r true e r' o → IsTidy r'
    → KeepsKnown r.entries r'.entries → IfOk o (λ _. IsInRange e) → Makes r r' true e o
plain r r' e o served tidy known range = record {
  range = range;
  served = served;
  tidy = tidy;
  known = known;
  first = λ z. absurd (granted_never (shown r) e (refuses o served z));
}
  where
    refuses : {T : Type 0} (o : Result T Why) → Serves r true e r' o → o ≡ Err Memory → first (tests (shown r) true e) ≡ Some Memory
    refuses (Ok x) s z = absurd cc
    refuses (Err why) s z = s.0 ∙ (let same : why ≡ Memory = cc in ap (λ (w : Why). let o : Option Why = Some w in o) same)

-- the same, at what the machine's call was handed and what it leaves
module _ (r : Registers) (before : IsSteady r) (v : Contents) (step : Step) (x : Inside) (a : Reply) (view : contents r ≡ v) where
  abbrev Stands : Registers → Step → Reply → Type 0
  Stands r' e b = (step ≡ e) × (x ≡ record { registers = r' }) × (a ≡ b)

  at : (r' : Registers) (e : Step) (b : Reply) → Stands r' e b → Stepped (contents r) e (record { registers = r' }) b → Stepped v step x a
  at r' e b is s = subst (λ (w : Contents × Step × Inside × Reply). Stepped w.0 w.1 w.2 w.3) (λ i. (view i, sym is.0 i, sym is.1 i, sym is.2 i)) s

  pub by_word : (r' : Registers) (g : Bool) (e : Step) (b : Reply) (o : Result Unit Why) → Stands r' e b → Makes r r' g e o
      → Replies (λ _ n. Word n) (shown r') o b → Word (word (effect (shown r) e)) ≡ answer (shown r) e → Stepped v step x a
  by_word r' g e b o is k reply form = at r' e b is (stepped r r' g e (λ _ n. Word n) b before o k reply (always _ (λ _. form) o))

  -- a call that isn't a join, and one that gets a job
  pub by_plain : (r' : Registers) (e : Step) (b : Reply) (o : Result Unit Why) → Stands r' e b → Serves r true e r' o → IsTidy r'
      → KeepsKnown r.entries r'.entries → IfOk o (λ _. IsInRange e) → Replies (λ _ n. Word n) (shown r') o b
      → Word (word (effect (shown r) e)) ≡ answer (shown r) e → Stepped v step x a
  by_plain r' e b o is served tidy known range = by_word r' true e b o is (plain r r' e o served tidy known range)

  pub by_job : (r' : Registers) (e : Step) (b : Reply) (j : ℕ) (o : Result ℕ Why) → Stands r' e b → Serves r true e r' o → IsTidy r'
      → KeepsKnown r.entries r'.entries → IsInRange e → Replies (λ k n. Job n k) (shown r') o b → IfOk o (λ k. k ≡ j)
      → Job (word (effect (shown r) e)) j ≡ answer (shown r) e → Stepped v step x a
  by_job r' e b j o is served tidy known range reply number form = at r' e b is (stepped r r' true e (λ k n. Job n k) b before o
      (plain r r' e o served tidy known (always _ (λ _. range) o)) reply (job_is _ j o number form))
