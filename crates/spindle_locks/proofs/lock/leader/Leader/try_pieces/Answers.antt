-- What was skipped is marked, what is marked the round has left, and one job alone marks none.
use Rattle.std.proofs.Common.{◌≡◌, ◌≤◌, ℕ, true, Some, Contains, arith, rules, sym, subst, refl}
use Rattle.std.proofs.lemmas.Result.{err_from_is_err_and}
use Rattle.spindle_rounds.specs.Leftovers.{IsMarked}
use Rattle.spindle_locks.proofs.LeaderRounds.{passed_on, none_marked, left_same, lost_refusal, lost_played}
use Rattle.spindle_locks.specs.Leaders.{AreLeft}
use Rattle.spindle_locks.specs.Reports.{is_marked, least_lost}
use Rattle.spindle_locks.proofs.lock.leader.Leader.try_pieces.Goals as goal

pub returns-in_err-left : goal.returns-in_err-left
returns-in_err-left g c = let p = err_from_is_err_and c.from_residual.result c.from_residual.ensures.1 in
    rw (p.1, p.2) (record { report = tt; skipped = λ _. tt; refused = c.args.pieces.now.some; trail = refl; lock = (refl, refl) })

pub returns-in_err-tally : goal.returns-in_err-tally
returns-in_err-tally g c = rw (passed_on c.from_residual-in_err-tally.result c.from_residual-in_err-tally.ensures.1 c.in_err-tally.ensures.memory)
    (record { report = tt; skipped = λ _. tt; refused = c.args.pieces.now.some; trail = refl; lock = (refl, refl) })

pub try_jobs-requires-clause-blank : goal.try_jobs-requires-clause-blank
try_jobs-requires-clause-blank g c κs within = let fresh = c.in_ok-tally.ensures in record {
  counted = search rules;
  unmarked = λ k marked. none_marked c.count.result k (subst (λ xs. is_marked xs k ≡ true) (c.in_ok-left.ensures.items_if_clones_equal
      (λ y same. same)) marked);
  fresh = fresh.fresh;
  whole = fresh.none;
}

pub returns-in_err-try_jobs : goal.returns-in_err-try_jobs
returns-in_err-try_jobs g c = let e = c.in_err-try_jobs.ensures in
    rw (passed_on c.from_residual-in_err-try_jobs.result c.from_residual-in_err-try_jobs.ensures.1 e.memory.0)
    (record { report = tt; skipped = λ _. tt; refused = c.args.pieces.now.some; trail = e.memory.1; lock = e.lock })

pub returns-in-Ok : goal.returns-in-Ok
returns-in-Ok g c = let e = c.in_ok-try_jobs.ensures in let n = c.args.pieces.now.count in let old = c.args.self.now in let new = c.try_jobs.new.self in
    let report = c.in-Ok.report in let marks = c.as_slice.result.now in record {
      report = c.in-Ok.ensures.report;
      skipped = λ two. left_same n (Contains report.skipped.items) (IsMarked marks) old new c.in-Ok.ensures.skipped
          (subst (λ xs. AreLeft n (IsMarked xs) old new) (sym c.as_slice.ensures.value) (e.tallied.tried two).1);
      refused = tt;
      trail = ((λ two. (e.tallied.tried two).0), (λ one. (e.tallied.direct one).0), λ none. absurd (omega (arith, c.args.pieces.now.some, none)));
      lock = e.lock;
    }

pub returns : goal.returns
returns g c = let e = c.in_ok-try_jobs.ensures in let p = c.args.pieces.now in let old = c.args.self.now in let new = c.try_jobs.new.self in
    let left = c.try_jobs.new.left.items in let tally = c.try_jobs.new.tally in let number = c.in-Err.number in let Meets = g.J.Job.meets in
    let Fails = g.J.Job.fails in let is : least_lost tally ≡ Some number = sym c.in-Err.ensures.lost in
    let bare : p.count ≤ 1 → (k : ℕ) → is_marked left k ≡ true → ⊥ = (λ one. (e.tallied.direct one).1) in record {
      report = tt;
      skipped = λ _. tt;
      refused = lost_refusal Meets Fails p.items p.count left tally old new number e.tallied.noted is e.tallied.one bare e.tallied.alone (λ two.
          (e.tallied.tried two).1);
      trail = lost_played Meets Fails p.items p.count left tally old new number e.tallied.noted is e.tallied.one bare (λ two. (e.tallied.tried two).0);
      lock = e.lock;
    }
