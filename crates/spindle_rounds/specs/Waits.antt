-- What a helper reads while it waits: at each turn requests for helpers too, but for a wish for patience.
use Rattle.std.specs.Prelude.{◌≡◌, ◌⊎◌, ◌<◌, ℕ, Bool, true, false, List, [], ◌∷◌, Some, None}
use Rattle.atomic_table.specs.Table.{Me}
use Rattle.spindle_parts.specs.declared.requests.plays.Account.{Account}
use Rattle.spindle_parts.specs.declared.words.TheConstants.{REQUESTS}
use Rattle.spindle_rounds.specs.declared.threads.helper_waits.News.{News}
use Rattle.spindle_rounds.specs.declared.threads.helper_waits.News.TheVariants.{Exit, Round, Requests}
use Rattle.spindle_rounds.specs.declared.threads.tables.Tables.{Tables}
use Rattle.spindle_rounds.specs.Signals.{Read, ReadExit, ReadRest}
use Rattle.spindle_rounds.specs.Members.{LookedForPublished}
use Rattle.spindle_rounds.specs.declared.barrier.Barrier.{Barrier}
use Rattle.spindle_rounds.specs.declared.barrier.steps.Arrival.TheVariants as arrival
use Rattle.spindle_rounds.specs.declared.barrier.waiting.ExitStatus.{ExitStatus}
use Rattle.spindle_rounds.specs.declared.round_table.view.View.{View}
use Rattle.spindle_rounds.specs.Holding.{TurnsLast, Remains}
use Rattle.spindle_rounds.specs.Passing.{Turned}
use Rattle.spindle_rounds.specs.RoundAnswers.{ArrivedBy}
use Rattle.spindle_rounds.specs.RoundConditions.{HasSense}

-- how many pauses of a wait pass in a lock with these tables before the first look at requests
abbrev pub patience_of : {T S N : Type 0} → Tables T S N → ℕ
patience_of tables = tables.sleep.idling.patience

-- one turn's look at requests, with this answer: they were read, or, by patience, taken for none
abbrev pub LookedAtRequests : (patience : ℕ) → (old : Account) → (answer : ℕ)
    → (new : Account) → Type 0
LookedAtRequests patience old answer new =
    Read REQUESTS answer old new ⊎ ((0 < patience) × (answer ≡ 0) × (new ≡ old))

module _ {T S N : Type 0} where
  -- a wait for the round's end: each turn looks at requests once, and goes by the answer
  abbrev pub WaitedForEnd : (patience : ℕ) → (old new : Account) → (sense : ℕ)
      → Me S (View N) → ExitStatus T S N → Type 0
  WaitedForEnd patience old new sense m status = (ns : List ℕ) × (n : ℕ) × (last : Account)
      × (u : Me S (View N)) × Turned (LookedAtRequests patience) sense ns old last m u
      × LookedAtRequests patience last n new × TurnsLast sense n u status

  -- a party arrived and made these turns, or it was the closer, which remains and reads nothing
  abbrev pub ArrivedAndWaited : (patience : ℕ) → (old new : Account) → Barrier T S N
      → ExitStatus T S N → Type 0
  ArrivedAndWaited patience old new b status = ((a : Me S (View N)) × (sense : ℕ)
      × HasSense a.0.standing sense × ArrivedBy arrival.Arrived b.seat.me a
      × WaitedForEnd patience old new sense a status)
      ⊎ ((a : Me S (View N)) × ArrivedBy arrival.Closer b.seat.me a × Remains status
      × (new ≡ old))

module _ {N : Type 0} where
  -- turns without news, the newest first, by what each read of the flag of rest:
  -- no exit, nothing published, no requests
  abbrev pub FoundNoNews : (patience : ℕ) → List Bool → (old new : Account)
      → (v w : View N) → Type 0
  FoundNoNews patience [] old new v w = (new ≡ old) × (w ≡ v)
  FoundNoNews patience (rest ∷ rests) old new v w = (before seen asked : Account) × (u : View N)
      × FoundNoNews patience rests old before v u × ReadExit false before seen
      × LookedForPublished None u w × LookedAtRequests patience seen 0 asked
      × ReadRest rest asked new

  -- the turn that finds some, by its last read
  abbrev pub FoundNews : News → (old new : Account) → (v w : View N) → Type 0
  FoundNews Exit old new v w = ReadExit true old new × (w ≡ v)
  FoundNews (Round published) old new v w = ReadExit false old new
      × LookedForPublished (Some published) v w
  FoundNews Requests old new v w = (seen : Account) × (n : ℕ) × ReadExit false old seen
      × LookedForPublished None v w × (0 < n) × Read REQUESTS n seen new

  -- a wait for news
  abbrev pub WaitedForNews : (patience : ℕ) → News → (old new : Account)
      → (v w : View N) → Type 0
  WaitedForNews patience news old new v w = (rests : List Bool) × (last : Account) × (u : View N)
      × FoundNoNews patience rests old last v u × FoundNews news last new u w
