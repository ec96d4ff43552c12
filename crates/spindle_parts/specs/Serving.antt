-- What a step of the machine's code does:
-- the step of its configuration, or a refusal that changes nothing.
use Rattle.std.specs.Prelude.{◌≡◌, ℕ, Bool, true, false, List, Some, None, Result, Err, MatchResult}
use Rattle.spindle_parts.specs.Machine.{Configuration, first, tests, effect, serve, word}
use Rattle.spindle_parts.specs.Registers.{shown}
use Rattle.spindle_parts.specs.Contents.{contents}
use Rattle.spindle_parts.specs.declared.steps.Step.{Step}
use Rattle.spindle_parts.specs.declared.steps.Why.{Why}
use Rattle.spindle_parts.specs.declared.steps.Why.TheVariants.{Memory}
use Rattle.spindle_parts.specs.declared.steps.Reply.{Reply}
use Rattle.spindle_parts.specs.declared.steps.Reply.TheVariants.{Refused}
use Rattle.spindle_parts.specs.declared.steps.registers.Registers.{Registers}

-- a growth was granted unless the answer is want of memory
abbrev pub granted_by : {T : Type 0} → Result T Why → Bool
granted_by (Err Memory) = false
granted_by r = true

-- Ok where no test is true, else the first that is
abbrev pub Passes : {T : Type 0} → List (Why × Bool) → Result T Why → Type 0
Passes ts outcome = MatchResult outcome (λ _. first ts ≡ None) (λ why. first ts ≡ Some why)

-- Ok with that effect where no test is true,
-- else refused by the first that is, with nothing changed
abbrev pub Judges : {T : Type 0} → List (Why × Bool) → Registers → (to : Configuration) → Registers
    → Result T Why → Type 0
Judges ts r to r' outcome = MatchResult outcome
    (λ _. (first ts ≡ None) × (shown r' ≡ to))
    (λ why. (first ts ≡ Some why) × (contents r' ≡ contents r))

-- the step of the step table, made or refused
abbrev pub Serves : {T : Type 0} → Registers → (granted : Bool) → Step → Registers → Result T Why
    → Type 0
Serves r granted e r' outcome = Judges (tests (shown r) granted e) r (effect (shown r) e) r' outcome

-- the answer to the outcome: in the form f, with the word, or the refusal
abbrev pub Replies : {T : Type 0} → (T → ℕ → Reply) → Configuration → Result T Why → Reply → Type 0
Replies f m outcome reply = MatchResult outcome (λ x. reply ≡ f x (word m))
    (λ why. reply ≡ Refused why)

-- the machine's step: a growth was granted or not, and the rest is as the step table says
abbrev pub IsServed : Configuration → Step → Configuration → Reply → Type 0
IsServed m e m' reply = (granted : Bool) × (m' ≡ (serve m granted e).0)
    × (reply ≡ (serve m granted e).1)
