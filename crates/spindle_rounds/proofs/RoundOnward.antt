-- What reads and steps of a round leave as it was in what its party knows, so that the party goes on.
use Rattle.std.proofs.Common.{◌≡◌, inl, inr, ℕ, zero, suc, ◌+◌, ◌<◌, ◌≤◌, Bool, true, false, List, [], ◌∷◌, length, get_or, sym, refl, ap, ◌∙◌, subst}
use Rattle.std.proofs.Common.{arith, Option, Some, None, if◌then◌else◌, nat_lt, ◌==◌}
use mathlib.Core.Logic.{dite}
use native.Mathlib.Decide.{ℕ_discrete}
use Rattle.spindle_rounds.specs.declared.round_table.view.View.{View}
use Rattle.spindle_rounds.specs.RoundShown.{IsListed}
use Rattle.spindle_rounds.specs.Words.{start_of, end_of}
use Rattle.spindle_rounds.specs.Leftovers.{finding}
use Rattle.spindle_rounds.specs.RoundSteps.{missing, list_empty, searching, reading_remainder, recalling, beginning, stealing, sharing, finishing, stopping}
use Rattle.spindle_rounds.specs.RoundSteps.{seeing, putting_back, list_all, list_finished}
use Rattle.spindle_rounds.specs.RoundConditions.{MayClaim}
use Rattle.spindle_rounds.specs.RoundAnswers.{searching_all}
use Rattle.spindle_rounds.specs.RoundViews.{AtWork, Onward, SeesAsBefore, SharesAsBefore}
use Rattle.spindle_rounds.proofs.RoundWords.{by_less, by_equal}

-- Going on.

pub onward_same : {N : Type 0} (v : View N) → Onward v v
onward_same v = search

pub onward_then : {N : Type 0} (u v w : View N) → Onward u v → Onward v w → Onward u w
onward_then u v w a b = record {
  leader = b.leader ∙ a.leader;
  threads = b.threads ∙ a.threads;
  standing = b.standing ∙ a.standing;
  number = b.number ∙ a.number;
  may_stop = b.may_stop ∙ a.may_stop;
  unpublished = b.unpublished ∙ a.unpublished;
  emptied = λ i l. b.emptied i (a.emptied i l);
  laid = b.laid ∙ a.laid;
  board = b.board ∙ a.board;
  published = b.published ∙ a.published;
}

pub still_at_work : {N : Type 0} (n : ℕ) (b : Bool) (v w : View N) → AtWork n b v → Onward v w → AtWork n b w
still_at_work n b v w a o = record { inside = (a.inside.0, o.standing ∙ a.inside.1); number = o.number ∙ a.number; may_stop = o.may_stop ∙ a.may_stop }

-- who is at work, has no claim and no share, and hasn't seen the stop, may claim
pub may_claim : {N : Type 0} (n : ℕ) (b : Bool) (v : View N) → AtWork n b v → v.claim ≡ None → v.to ≤ v.from → v.known.seen_stop ≡ false → MayClaim v
may_claim n b v a idle empty unseen = ((a.inside.0, a.inside.1, idle, empty), (n, a.number), unseen)

-- Reads.

more_listed : (o : Option ℕ) (b : Bool) (i j : ℕ) (l : List ℕ) → IsListed j l → IsListed j (list_empty o b i l)
more_listed None b i j l h = h
more_listed (Some n) true i j l h = inr h
more_listed (Some n) false i j l h = h

-- the list has what it had, and each range and the remainder
all_more : (t : ℕ) (l : List ℕ) (j : ℕ) → IsListed j l → IsListed j (list_all t l)
all_more zero l j h = inr h
all_more (suc t) l j h = inr (all_more t l j h)

all_now : (t : ℕ) (l : List ℕ) (i : ℕ) → i ≤ t → IsListed i (list_all t l)
all_now zero l i le = inl (omega arith)
all_now (suc t) l i le = dite (ℕ_discrete (suc t) i) (λ e. inl e) (λ n. inr (all_now t l i (omega arith)))

finished_still : (o : Option ℕ) (done t : ℕ) (l : List ℕ) (i : ℕ) → IsListed i l → IsListed i (list_finished o done t l)
finished_still None done t l i h = h
finished_still (Some n) done t l i h = by_equal n done (λ b. IsListed i (if b then list_all t l else l)) (λ _. all_more t l i h) (λ _. h)

pub finished_all : (o : Option ℕ) (done t : ℕ) (l : List ℕ) → o ≡ Some done → (i : ℕ) → i ≤ t → IsListed i (list_finished o done t l)
finished_all None done t l e i le = absurd cc
finished_all (Some n) done t l e i le = let same : n ≡ done = cc in
    by_equal n done (λ b. IsListed i (if b then list_all t l else l)) (λ _. all_now t l i le) (λ other. absurd (other same))

now_listed : (o : Option ℕ) (n i : ℕ) (b : Bool) (l : List ℕ) → o ≡ Some n → b ≡ true → IsListed i (list_empty o b i l)
now_listed None n i b l e is = absurd cc
now_listed (Some m) n i true l e is = inl refl
now_listed (Some m) n i false l e is = absurd cc

read_empty : (x : ℕ) → end_of x ≤ start_of x → (if nat_lt (start_of x) (end_of x) then false else true) ≡ true
read_empty x le = by_less (start_of x) (end_of x) (λ b. (if b then false else true) ≡ true) (λ lt. absurd (omega arith)) (λ _. refl)

module _ {N : Type 0} where
  pub searched_on : (i x : ℕ) (v : View N) → Onward v (searching i x v)
  searched_on i x v = search more_listed

  -- an empty range is listed
  pub searched_empty : (n i x : ℕ) (v : View N) → v.known.number ≡ Some n → end_of x ≤ start_of x → IsListed i (searching i x v).known.emptied
  searched_empty n i x v known le = now_listed v.known.number n i (if nat_lt (start_of x) (end_of x) then false else true) v.known.emptied known
      (read_empty x le)

  pub remainder_on : (x : ℕ) (v : View N) → Onward v (reading_remainder x v)
  remainder_on x v = search more_listed

  -- and an empty remainder
  pub remainder_empty : (n x : ℕ) (v : View N) → v.known.number ≡ Some n → x ≡ 0 → IsListed v.threads (reading_remainder x v).known.emptied
  remainder_empty n x v known zero_read = now_listed v.known.number n v.threads (x == 0) v.known.emptied known (ap (λ (z : ℕ). z == 0) zero_read)

  pub all_searched_on : (i : ℕ) (xs : List ℕ) (v : View N) → Onward v (searching_all i xs v) × SeesAsBefore v (searching_all i xs v) × SharesAsBefore v
      (searching_all i xs v) × ((searching_all i xs v).claim ≡ v.claim)
  all_searched_on i [] v = (onward_same v, (refl, refl), (refl, refl), refl)
  all_searched_on i (x ∷ xs) v = let r = all_searched_on (i + 1) xs (searching i x v) in
      (onward_then v (searching i x v) (searching_all (i + 1) xs (searching i x v)) (searched_on i x v) r.0, r.1, r.2, r.3)

  -- where all were read as empty, all are listed
  pub all_listed : (n i : ℕ) (xs : List ℕ) (v : View N) → v.known.number ≡ Some n →
      ((j : ℕ) → j < length xs → end_of (get_or xs j 0) ≤ start_of (get_or xs j 0)) → (j : ℕ) → j < length xs → IsListed (i + j)
      (searching_all i xs v).known.emptied
  all_listed n i [] v known empty j lt = absurd (omega arith)
  all_listed n i (x ∷ xs) v known empty zero lt = let here : i + 0 ≡ i = omega arith in
      subst (λ (a : ℕ). IsListed a (searching_all (i + 1) xs (searching i x v)).known.emptied) (sym here)
      ((all_searched_on (i + 1) xs (searching i x v)).0.emptied i (searched_empty n i x v known (empty zero (omega arith))))
  all_listed n i (x ∷ xs) v known empty (suc j) lt = let there : i + 1 + j ≡ i + suc j = omega arith in
      subst (λ (a : ℕ). IsListed a (searching_all (i + 1) xs (searching i x v)).known.emptied) there
      (all_listed n (i + 1) xs (searching i x v) known (λ k l. empty (suc k) (omega arith)) j (omega arith))

-- Steps that leave what is known.

module _ {N : Type 0} where
  pub missed_on : (i found : ℕ) (v : View N) → Onward v (missing i found v)
  missed_on i found v = search

  pub began_on : (i k found new : ℕ) (x : Option N) (v : View N) → Onward v (beginning i k found new x v)
  began_on i k found new x v = search

  pub stole_on : (i found : ℕ) (x : Option N) (v : View N) → Onward v (stealing i found x v)
  stole_on i found x v = search

  pub shared_on : (i stored : ℕ) (x : Option N) (v : View N) → Onward v (sharing i stored x v)
  shared_on i stored x v = search

  pub recalled_on : (n : ℕ) (v : View N) → Onward v (recalling n v)
  recalled_on n v = search

  pub finished_on : (found : ℕ) (v : View N) → Onward v (finishing found v)
  finished_on found v = search finished_still

  pub stopped_on : (stored : ℕ) (v : View N) → Onward v (stopping stored v)
  stopped_on stored v = search

  pub saw_on : (found : ℕ) (v : View N) → Onward v (seeing found v)
  saw_on found v = search

  pub found_on : (i found : ℕ) (v : View N) → Onward v (finding i found v)
  found_on i found v = search

  pub put_on : (i found : ℕ) (v : View N) → Onward v (putting_back i found v)
  put_on i found v = search
