-- What contracts see of the leader of a lock with slots, or in place. Its state is hidden behind a type P:
-- what is known of the seat in it is told by a function of P.
--
-- Its rounds promise the same four things as those of a lock with trays, which Leaders of the crate spindle_locks names.
--
-- clause          word         sentence
-- answer, updated  AllZip       an Ok answers the items: an output for each, in their order, or what became of it in its place
-- refused         IsForMemory  a refusal is Memory, and never of a round of no items: no piece is lost
-- trail           PlayedAs     the leader did nothing, or published once, that many jobs, in a round that has ended: by what came of it
-- goes_on         GoesOn       it leads the same lock, with as many threads and slots, and may run the next round
use denote.Ref.{MutBor}
use Rattle.std.specs.Fn.{Once, FnOnceTakesAtMut, FnOnceReturnsAtMut}
use Rattle.std.specs.Prelude.{◌≡◌, ◌≤◌, ℕ, min, OnOk, OnErr, IsOk, IsErrOf, Result}
use Rattle.spindle_parts.specs.declared.fault.Fault.{Fault}
use Rattle.spindle_parts.specs.declared.fault.Fault.TheVariants.{Memory}
use Rattle.spindle_parts.specs.declared.requests.plays.Account.{Account}
use Rattle.spindle_rounds.specs.Accounts as accounts
use Rattle.spindle_rounds.specs.Signals as signals
use Rattle.spindle_locks.specs.declared.leader_states.leader_state.LeaderState.{LeaderState}
use Rattle.spindle.specs.declared.lock.slot_leader.SlotLeader.{SlotLeader}
use Rattle.spindle_rounds.specs.declared.round_table.view.View.{View}
use Rattle.spindle_rounds.specs.RoundConditions.{MayFill}
use Rattle.spindle_rounds.specs.Working.{PlayedRound}

-- the threads of its lock
abbrev pub threads_of : {J G P I O N S : Type 0} → SlotLeader J G P I O N S → ℕ
threads_of leader = leader.counts.most

-- it leads a lock of so many threads with so many slots, where this tells them of its state
abbrev pub IsLeaderOf : {J G P I O N S : Type 0} → (P → ℕ) → (threads slots : ℕ)
    → SlotLeader J G P I O N S → Type 0
IsLeaderOf slot_count threads slots leader = (threads_of leader ≡ threads)
    × (slot_count leader.state ≡ slots)

-- what its seat at the ledger knows, with the trail of its own steps
abbrev pub account_of : {J G P I O N S : Type 0} → SlotLeader J G P I O N S → Account
account_of leader = accounts.account_of leader.runner.signals

-- a call over so many items is refused for want of memory alone, and never one over none
abbrev pub IsForMemory : {T : Type 0} → (items : ℕ) → Result T Fault → Type 0
IsForMemory items result = OnErr result (IsErrOf result Memory) × (items ≡ 0 → IsOk result)

-- it told the idle threads to rest, and did nothing else at the ledger
abbrev pub AnnouncedRest : {J G P I O N S : Type 0} → (old new : SlotLeader J G P I O N S) → Type 0
AnnouncedRest old new = signals.AnnouncedRest (account_of old) (account_of new)

-- what its state tells of it is as before
abbrev pub IsAsBefore : {J G P I O N S V : Type 0} → (P → V) → (old new : SlotLeader J G P I O N S)
    → Type 0
IsAsBefore told old new = told new.state ≡ told old.state

-- it did nothing: its seat at the round table is as before, and it made no step at the ledger
abbrev pub DidNothing : {J G P I O N S V : Type 0} → (P → V) → (old new : SlotLeader J G P I O N S)
    → Type 0
DidNothing view old new = IsAsBefore view old new × (account_of new ≡ account_of old)

-- the slots of its lock, where this tells them of its state
abbrev pub slots_of : {J G P I O N S : Type 0} → (P → ℕ) → SlotLeader J G P I O N S → ℕ
slots_of slot_count leader = slot_count leader.state

-- the slots of a lock whose leader has its kind of job's own state, as every caller's has
abbrev pub lock_slots : {J G K A B C I O N S : Type 0} → SlotLeader J G (LeaderState K A B C) I O N S → ℕ
lock_slots leader = leader.state.member.share.slots

-- it leads the same lock
abbrev pub IsSameLock : {J G P I O N S : Type 0} → (P → ℕ) → (old new : SlotLeader J G P I O N S)
    → Type 0
IsSameLock slot_count old new = (threads_of new ≡ threads_of old) × IsAsBefore slot_count old new

-- f may be called with each leader whose lock has so many slots
abbrev pub TakesLeaders : {J G P I O N S F R : Type 0} → (P → ℕ) → (slots : ℕ)
    → Once F (MutBor (SlotLeader J G P I O N S) × Unit {0}) R → F → Type 0
TakesLeaders {J} {G} {P} {I} {O} {N} {S} slot_count slots g f =
    (leader : SlotLeader J G P I O N S) → slots_of slot_count leader ≡ slots → FnOnceTakesAtMut g f leader

-- f was called with a leader of a lock of so many threads with so many slots, and returned r
unfoldable pub WasLed : {J G P I O N S F R : Type 0} → (P → ℕ) → (threads slots : ℕ)
    → Once F (MutBor (SlotLeader J G P I O N S) × Unit {0}) (R × (MutBor (SlotLeader J G P I O N S) × Unit {0}))
    → F → R → Type 0
WasLed {J} {G} {P} {I} {O} {N} {S} slot_count threads slots g f r =
    (old : SlotLeader J G P I O N S) × (new : SlotLeader J G P I O N S)
    × IsLeaderOf slot_count threads slots old × FnOnceReturnsAtMut g f old r new

-- the jobs of its round over so many items, asked for in so many jobs
abbrev pub slot_jobs : {J G P I O N S : Type 0} → (P → ℕ) → SlotLeader J G P I O N S
    → (items n_jobs : ℕ) → ℕ
slot_jobs slot_count leader items n_jobs = min items (min n_jobs (slot_count leader.state))

-- where this tells what its seat at the round table knows: it is in, and nothing is published
abbrev pub IsBetweenRounds : {J G P I O N S V : Type 0} → (P → View V) → SlotLeader J G P I O N S
    → Type 0
IsBetweenRounds view leader = MayFill (view leader.state)

-- it published once, so many jobs, and that round has ended
abbrev pub PlayedOnce : {J G P I O N S V : Type 0} → (P → View V) → (jobs : ℕ)
    → (old new : SlotLeader J G P I O N S) → Type 0
PlayedOnce view jobs old new = PlayedRound jobs (view old.state) (view new.state)

-- the lock goes on: it leads the same lock, and may run the next round
abbrev pub GoesOn : {J G P I O N S V : Type 0} → (P → View V) → (P → ℕ)
    → (old new : SlotLeader J G P I O N S) → Type 0
GoesOn view slot_count old new = IsSameLock slot_count old new × IsBetweenRounds view new

-- what it did for a round of so many jobs, by what came of that: it played the round,
-- but made no step for one job, nor where it was refused, and did nothing for none
abbrev pub PlayedAs : {J G P I O N S V T : Type 0} → (P → View V) → (jobs : ℕ)
    → (old new : SlotLeader J G P I O N S) → Result T Fault → Type 0
PlayedAs view jobs old new result = OnOk result (2 ≤ jobs → PlayedOnce view jobs old new)
    × OnErr result (IsAsBefore view old new)
    × (jobs ≤ 1 → IsAsBefore view old new) × (jobs ≡ 0 → DidNothing view old new)
