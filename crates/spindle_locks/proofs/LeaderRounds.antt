-- Rounds of a leader: their jobs, where it stands between them, refusals that are passed on, and what a lost piece tells.
use Rattle.std.proofs.Common.{◌≡◌, ◌≢◌, ℕ, ◌<◌, ◌≤◌, ◌↔◌, Bool, true, false, if◌then◌else◌, List, Option, None, Some, ⊎_elim, inl, inr, Result, Ok, Err, refl, ap, ◌∙◌, replicate, zero, suc, sym}
use Rattle.std.proofs.Common.{arith, min, ◌==◌, IsErrOf, IsErrAnd, IfErr, OnErr, OnOk, subst}
use Rattle.std.proofs.lemmas.Bool.{cases_lt, false≢true}
use Rattle.spindle_parts.specs.declared.fault.Fault.{Fault}
use Rattle.spindle_parts.specs.declared.fault.Fault.TheVariants.{Memory, Lost}
use Rattle.spindle_rounds.specs.Leftovers.{IsMarked}
use Rattle.spindle_parts.specs.Words.{most_jobs}
use Rattle.spindle_locks.specs.Rounds.{job_count}
use Rattle.spindle_rounds.specs.RoundConditions.{MayFill}
use Rattle.spindle_rounds.specs.Members.{party_view}
use Rattle.spindle_rounds.specs.declared.threads.leader_member.LeaderMember.{LeaderMember}
use Rattle.spindle_locks.specs.Leaders.{workers_of, AreLeft, IsTryRefusal, MadeNoStep, PlayedAs, PlayedOnce, StoppedNothing, TriedOnce}
use Rattle.spindle_locks.specs.Reports.{first_astray, is_marked, least_lost, IsNoted}
use Rattle.spindle_locks.proofs.Reports.{least_first, least_within}
use Rattle.spindle_locks.specs.declared.lock.leader.Leader.{Leader}
use Rattle.spindle_locks.specs.declared.pieces.tally.Tally.{Tally}

-- what a call was refused for is what is passed on
pub passed : {T E : Type 0} (r : Result T E) {x : E} → IsErrAnd r (λ z. z ≡ x) → r ≡ Err x
passed (Ok t) is = absurd is
passed (Err z) is = ap Err is

pub passed_on : {T U E : Type 0} (r : Result T E) {x y : E} → IsErrAnd r (λ z. z ≡ x) → IsErrOf {T = U} {E = E} (Err x) y → r ≡ Err y
passed_on r is was = passed r is ∙ ap Err cc

-- where only memory is wanting, what holds then holds of each refusal
pub only_memory : {T E : Type 0} (r : Result T E) (y : E) (P : Type 0) (Q : E → Type 0) → (P → Q y) → OnErr r (IsErrOf r y × P) → IfErr r Q
only_memory (Ok t) y P Q f h = tt
only_memory (Err x) y P Q f h = let same : y ≡ x = cc in subst Q same (f h.1)

-- the jobs of a round
pub jobs_are : (len capped jobs items n_jobs : ℕ) → len ≡ items → capped ≡ min n_jobs most_jobs → jobs ≡ min len capped → jobs ≡ job_count items n_jobs
jobs_are len capped jobs items n_jobs l m j = rw (j, l, m)

-- a round of some items has some jobs
pub some_jobs : (items n_jobs : ℕ) (empty : Bool) → empty ≡ (items == 0) → empty ≡ false → (0 < items → 0 < n_jobs) → 0 < job_count items n_jobs
some_jobs zero n_jobs empty is isnt more = absurd (false≢true (sym isnt ∙ is))
some_jobs (suc items) n_jobs empty is isnt more = let some = more (omega arith) in omega (arith, some)

-- and one of some numbers
pub some_numbers : (n : ℕ) → n ≢ 0 → 0 < job_count n n
some_numbers n some = omega arith

-- a count that isn't 1 is more, and one that is isn't
pub not_one : (n m : ℕ) → n ≡ m → 0 < n → (n ≡ 1 → ⊥) → m ≤ 1 → ⊥
not_one n m e some isnt one = isnt (omega arith)

pub not_two : (n m : ℕ) → n ≡ m → n ≡ 1 → 2 ≤ m → ⊥
not_two n m e one two = omega arith

-- a leader alone, which is refused for want of memory alone, played what there was
pub played_alone : {J G L I O N S T : Type 0} (jobs : ℕ) (old new : Leader J G L I O N S) (r : Result T Fault) → 0 < jobs
    → OnOk r (2 ≤ jobs → PlayedOnce jobs old new) → (jobs ≤ 1 → MadeNoStep old new) → OnErr r (IsErrOf r Memory × MadeNoStep old new)
    → PlayedAs jobs old new r
played_alone jobs old new (Ok t) some played direct memory = (played, direct, λ none. absurd (omega (arith, some, none)))
played_alone {T = T} jobs old new (Err x) some played direct memory =
    let same : Memory ≡ x = cc in subst (λ z. PlayedAs {T = T} jobs old new (Err z)) same memory.1

-- and of two jobs or more nothing is told but what was played
pub played_two : {P Q R : Type 0} (jobs : ℕ) → 2 ≤ jobs → P → (2 ≤ jobs → P) × (jobs ≤ 1 → Q) × (jobs ≡ 0 → R)
played_two jobs two played = ((λ _. played), (λ one. absurd (omega (arith, two, one))), λ none. absurd (omega (arith, two, none)))

-- a leader, as a member, is between two rounds
pub between : {T S N : Type 0} (p : LeaderMember T S N) → MayFill (party_view p.member.barrier)
between p = ((_, p.member.inside), p.member.role ∙ p.leads)

-- marks that are all false mark nothing
pub none_marked : (n k : ℕ) → is_marked (replicate n false) k ≡ true → ⊥
none_marked zero k marked = false≢true marked
none_marked (suc n) zero marked = false≢true marked
none_marked (suc n) (suc k) marked = none_marked n k marked

-- a piece is lost only of two or more, where a round of one loses none and marks none
two_or_more : {B : Type 0} (n : ℕ) (left : List Bool) (tally : Tally B) (k : ℕ) → (n ≤ 1 → tally.lost ≡ None)
    → (n ≤ 1 → is_marked left k ≡ true → ⊥) → (tally.lost ≡ None → is_marked left k ≡ true) → 2 ≤ n
two_or_more n left tally k whole bare lost = ⊎_elim (λ (two : 1 < n). two) (λ (one : n ≤ 1). absurd (bare one (lost (whole one)))) (cases_lt 1 n)

-- where none was noted as lost, and yet one is, none has failed
none_failed : (failed : Bool) (lost first : Option ℕ) (k : ℕ) → lost ≡ None → (if failed then lost else first) ≡ Some k → failed ≡ false
none_failed true lost first k none is = absurd cc
none_failed false lost first k none is = refl

-- so the least lost number of a tally refuses a round that may stop, which was played
module _ {J G L I O N S A B : Type 0} (Meets : A → B → Type 0) (Fails : B → Type 0) (items : List A) (n : ℕ) (left : List Bool) (tally : Tally B)
    (old new : Leader J G L I O N S) (k : ℕ) (noted : IsNoted Meets Fails items n left n tally) (is : least_lost tally ≡ Some k)
    (whole : n ≤ 1 → tally.lost ≡ None) (bare : n ≤ 1 → (j : ℕ) → is_marked left j ≡ true → ⊥) where
  lost_of_two : 2 ≤ n
  lost_of_two = two_or_more n left tally k whole (λ one. bare one k) (least_within Meets Fails items n left tally k noted is).1

  pub lost_refusal : (workers_of old ≤ 1 → (tally.lost ≡ None) × (2 ≤ n → tally.failed ≡ false → StoppedNothing old new))
      → (2 ≤ n → AreLeft n (IsMarked left) old new)
      → IsTryRefusal Meets Fails items n old new (Lost k)
  lost_refusal alone tried = let within = least_within Meets Fails items n left tally k noted is in let two = lost_of_two in (
    within.0,
    two,
    left,
    tried two,
    (λ workers. (within.1 (alone workers).0, (alone workers).1 two (none_failed tally.failed tally.lost (first_astray tally) k (alone workers).0 is))),
    ⊎_elim inl (λ z. inr (
      ⊎_elim (λ (many : 1 < workers_of old). many)
          (λ (few : workers_of old ≤ 1). absurd (let e = sym (alone few).0 ∙ z.0 in cc)) (cases_lt 1 (workers_of old)),
      tally.ran.items,
      noted.answers,
      z.1,
    ))
        (least_first Meets Fails items n left tally k noted is),
  )

  pub lost_played : (2 ≤ n → TriedOnce n old new) → TriedOnce n old new
  lost_played tried = tried lost_of_two

-- what holds of the same numbers is left too
pub left_same : {J G L I O N S : Type 0} (n : ℕ) (P Q : ℕ → Type 0) (old new : Leader J G L I O N S) → ((k : ℕ) → P k ↔ Q k) → AreLeft n Q old new
    → AreLeft n P old new
left_same n P Q old new same left = (
  (λ k. ((λ p. (left.0 k).0 ((same k).0 p)), λ f. (same k).1 ((left.0 k).1 f))),
  λ t s rule at k. let u = left.1 t s rule at k in ((λ p. u.0 ((same k).0 p)), λ f. (same k).1 (u.1 f)),
)
