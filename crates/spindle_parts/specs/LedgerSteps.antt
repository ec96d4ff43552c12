-- What each step on the ledger leaves of its seat's account, and what each answer says was found.
use Rattle.std.specs.Prelude.{◌≡◌, ◌≢◌, ℕ, ◌+◌, ◌-◌, ◌%◌, ◌^◌, ◌<◌, ◌≤◌, [], ◌∷◌}
use Rattle.atomic_table.specs.Table.{Me, Step}
use Rattle.spindle_parts.specs.declared.trail.Trace.{Trace}
use Rattle.spindle_parts.specs.Trail.{trace}
use Rattle.spindle_parts.specs.declared.words.TheConstants.{REQUESTS}
use Rattle.spindle_parts.specs.declared.requests.plays.Kind.{Kind}
use Rattle.spindle_parts.specs.declared.requests.plays.Kind.TheVariants as kind
use Rattle.spindle_parts.specs.declared.requests.plays.Account.{Account}
use Rattle.spindle_parts.specs.Ledger.{IsFlag}
use Rattle.spindle_parts.specs.declared.requests.TakePlace.{TakePlace}
use Rattle.spindle_parts.specs.declared.requests.TakePlace.TheVariants as answer

-- what a seat knows, and the slots that it holds: always none
abbrev pub Seated : Type 0
Seated = Me (Unit {0}) Account

-- the account with another credit and one step more in its trail
abbrev pub noted : ℕ → Trace Kind → Account → Account
noted credit x v = record { credit = credit; trail = x ∷ v.trail }

-- an account with nothing in it
abbrev pub blank : Account
blank = record { credit = 0; trail = [] }

-- the account as it was
abbrev pub same : Account → Account
same v = v

-- a new seat's account
abbrev pub new_account : Account → Account
new_account v = blank

-- after a load
abbrev pub loading : ℕ → ℕ → Account → Account
loading word found v = noted v.credit (trace word kind.Load found found) v

-- after the store of a flag
abbrev pub announcing : ℕ → ℕ → Account → Account
announcing word flag v = noted v.credit (trace word kind.Announce flag flag) v

-- after asking for n helpers
abbrev pub asking : ℕ → ℕ → Account → Account
asking n found v = noted (v.credit + n) (trace REQUESTS (kind.Ask n) found ((found + n) % 2 ^ 64)) v

-- after lowering requests by n
abbrev pub subtracting : ℕ → ℕ → Account → Account
subtracting n found v =
    noted (v.credit - n) (trace REQUESTS (kind.Subtract n) found ((found + (2 ^ 64 - n)) % 2 ^ 64))
    v

-- after opening n places
abbrev pub installing : ℕ → ℕ → ℕ → Account → Account
installing word n found v =
    noted (v.credit - n) (trace word (kind.Install n) found ((found + n) % 2 ^ 64)) v

-- after taking a place
abbrev pub taking : ℕ → ℕ → Account → Account
taking word found v = noted (v.credit + 1) (trace word kind.Take found (found - 1)) v

-- after an exchange that found another value than was loaded
abbrev pub missing : ℕ → ℕ → Account → Account
missing word found v = noted v.credit (trace word kind.Miss found found) v

-- after closing a slot
abbrev pub closing : ℕ → ℕ → Account → Account
closing word found v = noted (v.credit + found) (trace word kind.Close found 0) v

-- what a load tells its seat
abbrev pub loaded : Step (Unit {0}) → Seated → ℕ → Seated → Type 0
loaded st m found m' =
    (m'.1 ≡ m.1) × (m'.0 ≡ loading st.word found m.0) × (IsFlag st.word → found ≤ 1)

-- what a store of a flag tells
abbrev pub announced : Step (Unit {0}) → Seated → ℕ → Seated → Type 0
announced st m flag m' = (m'.1 ≡ m.1) × (m'.0 ≡ announcing st.word flag m.0)

-- what asking tells
abbrev pub asked : Step (Unit {0}) → Seated → ℕ → Seated → Type 0
asked st m found m' = (m'.1 ≡ m.1) × (m'.0 ≡ asking st.first found m.0)

-- what lowering requests tells
abbrev pub subtracted : Step (Unit {0}) → Seated → ℕ → Seated → Type 0
subtracted st m found m' = (m'.1 ≡ m.1) × (m'.0 ≡ subtracting st.first found m.0)

-- what opening places tells
abbrev pub installed : Step (Unit {0}) → Seated → ℕ → Seated → Type 0
installed st m found m' = (m'.1 ≡ m.1) × (m'.0 ≡ installing st.word st.first found m.0)

-- what an exchange on a slot's places tells: it took one, or found another value
abbrev pub taken : Step (Unit {0}) → Seated → ℕ → Seated → Type 0
taken st m found m' =
    (m'.1 ≡ m.1)
    × (found ≡ st.first → m'.0 ≡ taking st.word found m.0)
    × (found ≢ st.first → m'.0 ≡ missing st.word found m.0)

-- what closing a slot tells
abbrev pub closed : Step (Unit {0}) → Seated → ℕ → Seated → Type 0
closed st m found m' = (m'.1 ≡ m.1) × (m'.0 ≡ closing st.word found m.0)

-- Taken: the exchange found what the load had found, which was positive.
-- None: the word was read as 0. Again: the exchange found another value
abbrev pub TookBy : ℕ → TakePlace → Account → Account → Type 0
TookBy word answer.Taken v w = (n : ℕ) × (w ≡ taking word n (loading word n v)) × (0 < n)
TookBy word answer.None v w = w ≡ loading word 0 v
TookBy word answer.Again v w =
    (n found : ℕ) × (w ≡ missing word found (loading word n v)) × (0 < n) × (found ≢ n)
