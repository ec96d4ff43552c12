-- What contracts see of a leader, and the words for what its calls promise.
--
-- A call that runs a round promises four things, by four words; a round that may stop has the second word of a line.
--
-- clause          word                     sentence
-- answer, report  AllZip, IsReport         an Ok answers the items: an output for each, in their order; or a report of what ran and what was skipped
-- refused         IsRefusal, IsTryRefusal  a refusal is Memory or Lost(k), and never of a round of no jobs
-- trail           PlayedAs, TriedAs        the leader did nothing, or published once, that many jobs, in a round that has ended: by what came of it
-- goes_on         GoesOn                   it leads the same lock, with as many threads and workers, and may run the next round
--
-- Leaders of locks with slots and in place have the same words, said of their states in SlotLeaders of the crate spindle. The calls of a job's
-- context have answer and refused: the locks that they open are closed when they return, and the context is the same.
use denote.Ref.{MutBor}
use Rattle.std.specs.Fn.{Once, FnOnceReturnsAtMut}
use Rattle.std.specs.Prelude.{◌≡◌, ◌⊎◌, ◌↔◌, ℕ, ◌<◌, ◌≤◌, Bool, List, Vec, Result, Ok, Err, None, true, false, length}
use Rattle.std.specs.List.{All, Any}
use Rattle.std.specs.declared.alloc.Global.{Global}
use Rattle.spindle_parts.specs.declared.fault.Fault.{Fault}
use Rattle.spindle_parts.specs.declared.fault.Fault.TheVariants.{Memory, Lost}
use Rattle.spindle_parts.specs.declared.requests.plays.Account.{Account}
use Rattle.spindle_rounds.specs.Accounts as accounts
use Rattle.spindle_rounds.specs.Signals as signals
use Rattle.spindle_rounds.specs.declared.threads.tables.ThreadCounts.{ThreadCounts}
use Rattle.spindle_rounds.specs.declared.threads.leader_member.LeaderMember.{LeaderMember}
use Rattle.spindle_locks.specs.Reports.{HasFailed, IsAnswered, IsNoted}
use Rattle.spindle_locks.specs.declared.lock.leader.Leader.{Leader}
use Rattle.spindle_locks.specs.declared.pieces.tally.Tally.{Tally}
use Rattle.spindle_rounds.specs.declared.round_table.view.View.{View}
use Rattle.spindle_rounds.specs.Leftovers.{AreUnbegun, IsFoundLeft, IsMarked}
use Rattle.spindle_rounds.specs.RoundConditions.{MayFill}
use Rattle.spindle_rounds.specs.RoundSlots.{bare}
use Rattle.spindle_rounds.specs.RoundSteps.{round_of}
use Rattle.spindle_rounds.specs.Working.{PlayedRound, PlayedRoundOf}
use Rattle.spindle_rounds.specs.RoundViews.{StopsAsBefore}

-- the threads of the lock in whose barrier a leader stands
abbrev pub counts_of : {T S N : Type 0} → LeaderMember T S N → ThreadCounts
counts_of leader_member = leader_member.member.tables.now.counts

-- the threads of its lock
abbrev pub threads_of : {J G L I O N S : Type 0} → Leader J G L I O N S → ℕ
threads_of leader = (counts_of leader.leader_member).most

-- how many of them may take part in its rounds: 1 where it works alone
abbrev pub workers_of : {J G L I O N S : Type 0} → Leader J G L I O N S → ℕ
workers_of leader = (counts_of leader.leader_member).threads

-- it leads the same lock
abbrev pub IsSameLock : {J G L I O N S : Type 0} → (old new : Leader J G L I O N S) → Type 0
IsSameLock old new = (threads_of new ≡ threads_of old) × (workers_of new ≡ workers_of old)

-- f was called with a leader of a lock of so many threads,
-- of which so many may take part, and returned r
unfoldable pub WasLed : {J G L I O N S F R : Type 0} → (threads workers : ℕ)
    → Once F (MutBor (Leader J G L I O N S) × Unit {0}) (R × (MutBor (Leader J G L I O N S) × Unit {0}))
    → F → R → Type 0
WasLed {J} {G} {L} {I} {O} {N} {S} threads workers g f r =
    (old : Leader J G L I O N S) × (new : Leader J G L I O N S)
    × (threads_of old ≡ threads) × (workers_of old ≡ workers) × FnOnceReturnsAtMut g f old r new

-- what its seat at the round table knows, with the trail of its own steps
abbrev pub view_of : {J G L I O N S : Type 0} → Leader J G L I O N S → View (Unit {0})
view_of leader = leader.leader_member.member.barrier.seat.me.0

-- what its seat at the ledger knows, with the trail of its own steps
abbrev pub account_of : {J G L I O N S : Type 0} → Leader J G L I O N S → Account
account_of leader = accounts.account_of leader.runner.signals

-- it told the idle threads to rest, and did nothing else at the ledger
abbrev pub AnnouncedRest : {J G L I O N S : Type 0} → (old new : Leader J G L I O N S) → Type 0
AnnouncedRest old new = signals.AnnouncedRest (account_of old) (account_of new)

-- it is in, and nothing is published
abbrev pub IsBetweenRounds : {J G L I O N S : Type 0} → Leader J G L I O N S → Type 0
IsBetweenRounds leader = MayFill (view_of leader)

-- the lock goes on: it leads the same lock, and may run the next round
abbrev pub GoesOn : {J G L I O N S : Type 0} → (old new : Leader J G L I O N S) → Type 0
GoesOn old new = IsSameLock old new × IsBetweenRounds new

-- it made no step at the round table, so its trail is as before
abbrev pub MadeNoStep : {J G L I O N S : Type 0} → (old new : Leader J G L I O N S) → Type 0
MadeNoStep old new = view_of new ≡ view_of old

-- it stopped no round: by its trail there is no stop more than before
abbrev pub StoppedNothing : {J G L I O N S : Type 0} → (old new : Leader J G L I O N S) → Type 0
StoppedNothing old new = StopsAsBefore (view_of old) (view_of new)

-- it did nothing: no step at the round table, and none at the ledger
abbrev pub DidNothing : {J G L I O N S : Type 0} → (old new : Leader J G L I O N S) → Type 0
DidNothing old new = MadeNoStep old new × (account_of new ≡ account_of old)

-- it published once, so many jobs, and that round has ended
abbrev pub PlayedOnce : {J G L I O N S : Type 0}
    → (jobs : ℕ) → (old new : Leader J G L I O N S) → Type 0
PlayedOnce jobs old new = PlayedRound jobs (view_of old) (view_of new)

-- what it did for a round of so many jobs, by what came of that: it played the round,
-- but made no step for one job, nor where memory was wanting, and did nothing for none
abbrev pub PlayedAs : {J G L I O N S T : Type 0}
    → (jobs : ℕ) → (old new : Leader J G L I O N S) → Result T Fault → Type 0
PlayedAs jobs old new (Ok t) = (2 ≤ jobs → PlayedOnce jobs old new)
    × (jobs ≤ 1 → MadeNoStep old new) × (jobs ≡ 0 → DidNothing old new)
PlayedAs jobs old new (Err Memory) = MadeNoStep old new
PlayedAs jobs old new (Err (Lost k)) = PlayedOnce jobs old new

-- it published once, so many jobs in a round that may stop, and that round has ended
abbrev pub TriedOnce : {J G L I O N S : Type 0}
    → (jobs : ℕ) → (old new : Leader J G L I O N S) → Type 0
TriedOnce jobs old new = PlayedRoundOf jobs true (view_of old) (view_of new)

-- these are the numbers that its round of so many jobs has left: by its own trail it found them left where it looked last,
-- and at every moment until its next step nobody has begun them, and all others have begun
abbrev pub AreLeft : {J G L I O N S : Type 0}
    → (jobs : ℕ) → (ℕ → Type 0) → (old new : Leader J G L I O N S) → Type 0
AreLeft jobs P old new = ((k : ℕ) → P k ↔ IsFoundLeft (view_of new) (workers_of old) jobs k)
    × AreUnbegun bare (round_of (view_of old).standing) jobs (view_of new) P

-- and what that round has left is marked
abbrev pub TriedAndMarked : {J G L I O N S : Type 0}
    → (jobs : ℕ) → (marks : List Bool) → (old new : Leader J G L I O N S) → Type 0
TriedAndMarked jobs marks old new = TriedOnce jobs old new × AreLeft jobs (IsMarked marks) old new

-- a round of n pieces over these items that may stop is to be played: each piece has a mark, none is set, and nothing is noted
pub record IsBlank {A B : Type 0} (Meets : A → B → Type 0) (Fails : B → Type 0) (items : List A) (n : ℕ) (marks : List Bool) (tally : Tally B)
    : Type 0 where
  pub counted : length marks ≡ n
  pub unmarked : (k : ℕ) → IsMarked marks k → ⊥
  pub fresh : (left : List Bool) → IsNoted Meets Fails items n left 0 tally
  pub whole : tally.lost ≡ None

-- it was played: what it has left is marked, and what came of each piece is noted. With one piece, or where the leader works alone,
-- none is lost, and a leader alone has stopped nothing if none that ran has failed
pub record IsTallied {J G L I O N S A B : Type 0} (Meets : A → B → Type 0) (Fails : B → Type 0) (items : List A) (n : ℕ) (marks : List Bool)
    (tally : Tally B) (old new : Leader J G L I O N S) : Type 0 where
  pub counted : length marks ≡ n
  pub tried : 2 ≤ n → TriedAndMarked n marks old new
  pub direct : n ≤ 1 → MadeNoStep old new × ((k : ℕ) → IsMarked marks k → ⊥)
  pub noted : IsNoted Meets Fails items n marks n tally
  pub one : n ≤ 1 → tally.lost ≡ None
  pub alone : workers_of old ≤ 1 → (tally.lost ≡ None) × (2 ≤ n → tally.failed ≡ false → StoppedNothing old new)

-- why a round over these items that may stop may be refused, but never one of no jobs: for want of memory, or since k is the least
-- number of a piece that is lost. Of what the round has left none is less, unless another thread takes part and a piece that ran has failed;
-- where the leader works alone k is among it, though this leader has stopped nothing
abbrev pub IsTryRefusal : {J G L I O N S A B : Type 0} → (A → B → Type 0) → (B → Type 0)
    → List A → (jobs : ℕ) → (old new : Leader J G L I O N S) → Fault → Type 0
IsTryRefusal Meets Fails items jobs old new Memory = 0 < jobs
IsTryRefusal {B = B} Meets Fails items jobs old new (Lost k) = (k < jobs) × (2 ≤ jobs)
    × (left : List Bool) × AreLeft jobs (IsMarked left) old new
    × (workers_of old ≤ 1 → IsMarked left k × StoppedNothing old new)
    × (((j : ℕ) → j < k → IsMarked left j → ⊥)
    ⊎ ((2 ≤ workers_of old) × (ran : List (ℕ × Vec B Global))
    × All (IsAnswered Meets items jobs) ran × Any (HasFailed Fails) ran))

-- the same of a round that may stop
abbrev pub TriedAs : {J G L I O N S T : Type 0}
    → (jobs : ℕ) → (old new : Leader J G L I O N S) → Result T Fault → Type 0
TriedAs jobs old new (Ok t) = (2 ≤ jobs → TriedOnce jobs old new)
    × (jobs ≤ 1 → MadeNoStep old new) × (jobs ≡ 0 → DidNothing old new)
TriedAs jobs old new (Err Memory) = MadeNoStep old new
TriedAs jobs old new (Err (Lost k)) = TriedOnce jobs old new
