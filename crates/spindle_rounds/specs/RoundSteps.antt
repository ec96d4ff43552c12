-- What becomes of a seat's view by each kind of step on a round table (`joining`:
-- the view after a join). What a step tells its seat is in RoundTells (`JoinTells`),
-- and what a call answers by it in RoundAnswers (`JoinedBy`).
use Rattle.std.specs.Prelude.{ℕ, zero, suc, ◌+◌, ◌-◌, ◌*◌, ◌/◌, ◌%◌, Bool, true, false, List, [], ◌∷◌, Option}
use Rattle.std.specs.Prelude.{Some, None, if◌then◌else◌, ◌==◌, ◌&&◌, nat_lt}
use Rattle.spindle_parts.specs.declared.trail.Trace.{Trace}
use Rattle.spindle_parts.specs.Trail.{trace}
use Rattle.spindle_rounds.specs.declared.round_table.view.Standing.{Standing}
use Rattle.spindle_rounds.specs.declared.round_table.view.Standing.TheVariants.{Away, Inside}
use Rattle.spindle_rounds.specs.declared.round_table.view.Standing.TheVariants.{Waiting, Closing}
use Rattle.spindle_rounds.specs.declared.round_table.view.Kind.{Kind}
use Rattle.spindle_rounds.specs.declared.round_table.view.Kind.TheVariants as kind
use Rattle.spindle_rounds.specs.declared.round_table.view.Known.{Known}
use Rattle.spindle_rounds.specs.declared.round_table.view.View.{View}
use Rattle.spindle_rounds.specs.Words.{barrier_at, published_at, finished_at, stopped_at}
use Rattle.spindle_rounds.specs.Words.{remainder_at, range_at, one_member, one_party, sense_bit}
use Rattle.spindle_rounds.specs.Words.{high_half, most_jobs, count_of, most_of, sense_of, start_of}
use Rattle.spindle_rounds.specs.Words.{end_of, length_of, range_word}
use Rattle.spindle_rounds.specs.RoundShown.{number_of}

-- the round in which a party stands
abbrev pub round_of : Standing → ℕ
round_of Away = 0
round_of (Inside q) = q
round_of (Waiting q quiet) = q
round_of (Closing q member cleared at) = q

-- nothing is known of the round, but to the leader that it has published nothing
abbrev pub unknown : Bool → Bool → Known
unknown leads seen = record {
  number = None;
  may_stop = false;
  unpublished = leads;
  seen_stop = seen;
  emptied = [];
  stored = [];
}

-- a seat that has done nothing
abbrev pub outsider : {N : Type 0} → ℕ → Bool → View N
outsider t leads = record {
  leader = leads;
  threads = t;
  standing = Away;
  known = unknown false false;
  claim = None;
  note = None;
  from = 0;
  to = 0;
  laid = None;
  board = [];
  trail = [];
}

-- the seat that another is split off
abbrev pub same_view : {N : Type 0} → View N → View N
same_view v = v

-- a new seat of the same table
abbrev pub new_view : {N : Type 0} → View N → View N
new_view v = outsider v.threads false

-- the view with one step more in its trail
abbrev pub noted : {N : Type 0} → Trace Kind → View N → View N
noted x v = record v { trail = x ∷ v.trail }

-- the view with another standing, of whose round it knows this
abbrev pub standing : {N : Type 0} → Standing → Known → View N → View N
standing st k v = record v { standing = st; known = k }

-- no longer inside
abbrev pub outside : {N : Type 0} → Standing → View N → View N
outside st v = standing st (unknown false false) v

-- after a load of the word i
abbrev pub loading : {N : Type 0} → ℕ → ℕ → View N → View N
loading i found v = noted (trace i kind.Load found found) v

-- after an exchange there that found another value
abbrev pub missing : {N : Type 0} → ℕ → ℕ → View N → View N
missing i found v = noted (trace i kind.Miss found found) v

-- The barrier word.

-- after a join in the round q, of whose stop it may have seen
abbrev pub joining : {N : Type 0} → ℕ → Bool → ℕ → View N → View N
joining q seen found v = noted (trace barrier_at kind.Join found (found + one_party))
    (standing (Inside q) (unknown v.leader seen) v)

-- after an arrival: who found one member in is the closer
abbrev pub arriving : {N : Type 0} → ℕ → View N → View N
arriving found v = let q = round_of v.standing in
    noted (trace barrier_at kind.Arrive found (found - 1))
    (outside (if count_of found == 1 then Closing q true false None else Waiting q
    v.known.unpublished) v)

-- after a look of a seat that waits: its round goes on, or has ended
abbrev pub looking : {N : Type 0} → ℕ → View N → View N
looking found v = let q = round_of v.standing in let w = loading barrier_at found v in
    if sense_of found == q % 2 then w else standing (Inside (q + 1)) (unknown v.leader false) w

-- after a leave
abbrev pub leaving : {N : Type 0} → ℕ → View N → View N
leaving found v = noted (trace barrier_at kind.Leave found (found - one_member)) (outside Away v)

-- the word after a party that is in has gone
abbrev pub exit_word : ℕ → ℕ
exit_word n = if most_of n == 1 then sense_bit * (1 - sense_of n) else n - one_party

-- after an exit: whom all other members wait for is the closer
abbrev pub exiting : {N : Type 0} → ℕ → View N → View N
exiting found v = noted (trace barrier_at kind.Exit found (exit_word found))
    (outside (if (count_of found == 1) && nat_lt 1 (most_of found) then Closing
    (round_of v.standing) false false None else Away) v)

-- the closer knows the barrier word, which stands
abbrev pub with_word : ℕ → Standing → Standing
with_word n (Closing q member cleared at) = Closing q member cleared (Some n)
with_word n st = st

-- after the closer's load of the barrier word
abbrev pub closer_reading : {N : Type 0} → ℕ → View N → View N
closer_reading found v = loading barrier_at found
    (record v { standing = with_word found v.standing })

-- the closer has cleared
abbrev pub with_clear : Standing → Standing
with_clear (Closing q member was at) = Closing q member true at
with_clear st = st

-- after a clear: the published word is 0
abbrev pub clearing : {N : Type 0} → ℕ → View N → View N
clearing stored v = noted (trace published_at kind.Clear stored stored)
    (record v { standing = with_clear v.standing })

-- the word after the round that the word n closes
abbrev pub turned_word : ℕ → ℕ
turned_word n = most_of n + one_member * most_of n + sense_bit * (1 - sense_of n)

-- the closer is in the next round where it is a member, and else it is out
abbrev pub after_end : Bool → Standing → Known × Standing
after_end leads (Closing q true was at) = (unknown leads false, Inside (q + 1))
after_end leads _ = (unknown false false, Away)

-- after the closer has ended the round
abbrev pub ending : {N : Type 0} → ℕ → View N → View N
ending stored v = let x = after_end v.leader v.standing in
    noted (trace barrier_at kind.End stored stored) (standing x.1 x.0 v)

-- Publishing.

-- what is known after the published word was read:
-- 0, a number, or a number of a round that may stop
abbrev pub known_by : ℕ → Known → Known
known_by found k = record k {
  number = if found == 0 then None else Some (found % high_half);
  may_stop = nat_lt most_jobs found;
  seen_stop = if nat_lt most_jobs found then k.seen_stop else false;
}

-- after a load of the published word
abbrev pub learning : {N : Type 0} → ℕ → View N → View N
learning found v = loading published_at found (record v { known = known_by found v.known })

-- after the leader has stored the value x in the word i, for a round to come
abbrev pub filling : {N : Type 0} → ℕ → ℕ → View N → View N
filling i x v = noted (trace i kind.Fill x x)
    (record v { known = record v.known { stored = (i, x) ∷ v.known.stored }; laid = None })

-- what the published word says of n jobs
abbrev pub publish_word : Bool → ℕ → ℕ
publish_word may_stop n = number_of (Some n) may_stop

-- after the leader has published n jobs
abbrev pub publishing : {N : Type 0} → Bool → ℕ → View N → View N
publishing may_stop n v = let x = publish_word may_stop n in
    noted (trace published_at (kind.Publish (round_of v.standing) n may_stop) x x)
    (record v {
      known = record {
        number = Some n;
        may_stop = may_stop;
        unpublished = false;
        seen_stop = false;
        emptied = [];
        stored = [];
      };
      laid = Some
          (round_of v.standing);
    })

-- Claims.

-- of the range i, or the remainder, it is known where the number is that it was read as empty
abbrev pub list_empty : Option ℕ → Bool → ℕ → List ℕ → List ℕ
list_empty None empty i l = l
list_empty (Some n) empty i l = if empty then i ∷ l else l

-- after a load of the word of the range i, or of the remainder
abbrev pub reading : {N : Type 0} → ℕ → ℕ → Bool → ℕ → View N → View N
reading word i empty found v = loading word found
    (record v {
      known =
          record v.known { emptied = list_empty v.known.number empty i v.known.emptied };
    })

-- after a load of the i-th range
abbrev pub searching : {N : Type 0} → ℕ → ℕ → View N → View N
searching i found v = reading (range_at i) i
    (if nat_lt (start_of found) (end_of found) then false else true) found v

-- after a load of the remainder
abbrev pub reading_remainder : {N : Type 0} → ℕ → View N → View N
reading_remainder found v = reading remainder_at v.threads (found == 0) found v

-- after a load of the published word by a member that knows the number n
abbrev pub recalling : {N : Type 0} → ℕ → View N → View N
recalling n v = loading published_at (number_of (Some n) v.known.may_stop) v

-- after an exchange at the word i with which the number k begins
abbrev pub beginning : {N : Type 0} → ℕ → ℕ → ℕ → ℕ → Option N → View N → View N
beginning i k found new x v =
    record (noted (trace i (kind.Begin (round_of v.standing) k) found new) v) {
      claim = Some k;
      note = x;
    }

-- after the front of a range was claimed, at the word i
abbrev pub claiming : {N : Type 0} → ℕ → ℕ → Option N → View N → View N
claiming i found x v = beginning i (start_of found) found (found + 1) x v

-- how many numbers a thief takes
abbrev pub half_of : ℕ → ℕ
half_of length = if length / 2 == 0 then 1 else length / 2

-- where the last half of a range starts
abbrev pub stolen_from : ℕ → ℕ
stolen_from range = end_of range - half_of (length_of range)

-- after the last half of a range was stolen:
-- its first number begins, and the others are the seat's share
abbrev pub stealing : {N : Type 0} → ℕ → ℕ → Option N → View N → View N
stealing i found x v =
    record (beginning i (stolen_from found) found
    (range_word (start_of found) (stolen_from found)) x v) {
      from = stolen_from found + 1;
      to = end_of found;
    }

-- after the first number left of the remainder was claimed, of n jobs
abbrev pub claiming_remainder : {N : Type 0} → ℕ → ℕ → Option N → View N → View N
claiming_remainder n found x v = beginning remainder_at (n - found) found (found - 1) x v

-- the number, or 0 where there is none
abbrev pub number_or : Option ℕ → ℕ
number_or None = 0
number_or (Some n) = n

-- after the share's first number has begun, by a store of what is left on the share word i
abbrev pub sharing : {N : Type 0} → ℕ → ℕ → Option N → View N → View N
sharing i stored x v = record (beginning i v.from stored stored x v) { from = v.from + 1 }

-- before those of the list, all ranges of t threads and the remainder
abbrev pub list_all : ℕ → List ℕ → List ℕ
list_all zero l = zero ∷ l
list_all (suc t) l = suc t ∷ list_all t l

-- once so many jobs have finished it is known, where the number is and they are all, that nothing
-- is left on t threads
abbrev pub list_finished : Option ℕ → ℕ → ℕ → List ℕ → List ℕ
list_finished None done t l = l
list_finished (Some n) done t l = if n == done then list_all t l else l

-- after its claim was counted as finished: who counts the last one knows that nothing is left
abbrev pub finishing : {N : Type 0} → ℕ → View N → View N
finishing found v =
    record (noted (trace finished_at (kind.Finish (round_of v.standing) (number_or v.claim)) found
    (found + 1)) v) {
      claim = None;
      note = None;
      known = record v.known {
        emptied = list_finished v.known.number (found + 1) v.threads v.known.emptied;
      };
    }

-- Stopping.

-- after it has stopped the round
abbrev pub stopping : {N : Type 0} → ℕ → View N → View N
stopping stored v =
    noted (trace stopped_at (kind.Stop (round_of v.standing) (number_or v.claim)) stored stored)
    (record v { known = record v.known { seen_stop = true } })

-- after a load of the word `stopped`: 1 says that the round was stopped
abbrev pub seeing : {N : Type 0} → ℕ → View N → View N
seeing found v = loading stopped_at found
    (record v { known = record v.known { seen_stop = found == 1 } })

-- after its share went back into the empty range of the word i
abbrev pub putting_back : {N : Type 0} → ℕ → ℕ → View N → View N
putting_back i found v =
    record (noted (trace i kind.PutBack found (range_word v.from v.to)) v) { from = v.to }
