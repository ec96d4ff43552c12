-- What a lock's tables promise, whatever its threads do.
use Rattle.std.specs.Prelude.{ℕ}
use Rattle.atomic_table.specs.Table.{State}
use Rattle.spindle_parts.specs.EveryRun.{EveryRun}
use Rattle.spindle_parts.specs.declared.numbers.plays.View.{View}
use Rattle.spindle_parts.specs.ThreadNumbers.{IsNumbering, NumbersDiffer}
use Rattle.spindle_parts.specs.declared.requests.plays.Account.{Account}
use Rattle.spindle_parts.specs.Ledger.{Balanced, BooksBalance}
use Rattle.spindle_rounds.specs.RoundSlots.{Discipline}
use Rattle.spindle_rounds.specs.RoundRuns.{EveryStep}
use Rattle.spindle_rounds.specs.RoundTrails.{EveryMoment}

-- what holds of every lock, of any number of threads, rounds and jobs
pub record Headline {S N : Type 0} (D : Discipline S N) : Type 0 where
  -- whatever steps any parties take by the model, no number begins twice or outside its round,
  -- and a round ends only with every number that began in it finished, once
  pub runs : EveryRun
  -- threads change the words of a round table by the steps of the model
  pub steps : EveryStep D
  -- so at every moment the table shows a run of which the laws of every run hold
  pub moments : EveryMoment D
  -- in every state that the rule of a numbers table allows, thread numbers in use differ
  pub numbers : (threads : ℕ) (s : State (Unit {0}) View) → IsNumbering threads s
      → NumbersDiffer threads s.views
  -- in every state that the rule of a ledger allows, requests for helpers are the unfilled places
  -- and the credits of all seats
  pub books : (slots : ℕ) (s : State (Unit {0}) Account) → Balanced slots s → BooksBalance slots s
