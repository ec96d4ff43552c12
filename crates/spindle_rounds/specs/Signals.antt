-- What a thread's account at the ledger gains by the signals that it reads and gives.
use Rattle.std.specs.Prelude.{◌≡◌, ◌⊎◌, ℕ, Bool, true, false, if◌then◌else◌}
use Rattle.spindle_parts.specs.declared.requests.plays.Account.{Account}
use Rattle.spindle_parts.specs.declared.requests.TakePlace.TheVariants as answer
use Rattle.spindle_parts.specs.declared.words.TheConstants.{EXIT, REST}
use Rattle.spindle_parts.specs.Ledger.{place_word}
use Rattle.spindle_parts.specs.LedgerSteps.{loading, announcing, subtracting, TookBy}

-- one load of a word of the ledger, which found this
abbrev pub Read : (word found : ℕ) → (old new : Account) → Type 0
Read word found old new = new ≡ loading word found old

-- one load of the flag that the helpers end, with this answer
abbrev pub ReadExit : (announced : Bool) → (old new : Account) → Type 0
ReadExit announced old new = Read EXIT (if announced then 1 else 0) old new

-- one load of the flag that idle threads rest, with this answer
abbrev pub ReadRest : (announced : Bool) → (old new : Account) → Type 0
ReadRest announced old new = Read REST (if announced then 1 else 0) old new

-- one store: the helpers are to end, and nothing else was done at the ledger
abbrev pub AnnouncedExit : (old new : Account) → Type 0
AnnouncedExit old new = new ≡ announcing EXIT 1 old

-- one store: idle threads are to rest, and nothing else was done at the ledger
abbrev pub AnnouncedRest : (old new : Account) → Type 0
AnnouncedRest old new = new ≡ announcing REST 1 old

-- idle threads are to make their turns again:
-- the flag was read as 0, or it was read and then 0 stored
abbrev pub EndedRest : (old new : Account) → Type 0
EndedRest old new =
    Read REST 0 old new ⊎ (new ≡ announcing REST 0 (loading REST 1 old))

-- one try for a place of the slot: where it was had,
-- requests fell by 1 after it, and the credit is as before
abbrev pub TookPlace : (slot : ℕ) → Bool → (old new : Account) → Type 0
TookPlace slot true old new = (mid : Account) × (found : ℕ)
    × TookBy (place_word slot) answer.Taken old mid × (new ≡ subtracting 1 found mid)
TookPlace slot false old new = TookBy (place_word slot) answer.None old new
    ⊎ TookBy (place_word slot) answer.Again old new
