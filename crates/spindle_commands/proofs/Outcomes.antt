-- What a report tells of the numbers: a piece that has failed has the bad one.
use Rattle.std.proofs.Common.{◌≡◌, ℕ, zero, suc, ◌+◌, ◌-◌, ◌<◌, Bool, true, List, [], ◌∷◌, map, take, drop, length, get_or, Vec, Global, All, Any, Result, Ok}
use Rattle.std.proofs.Common.{Err, IfOk, Contains, inl, inr, ⊎_elim, ap, sym, ◌∙◌, subst, arith}
use Rattle.std.specs.Prelude.{IsTrue}
use Rattle.std.specs.List.{AllZip}
use Rattle.std.specs.List.Sorted.{IsStrictlyIncreasing}
use Rattle.std.proofs.lemmas.List.{length-map, get_or-map, take-map, drop-map}
use Rattle.spindle_parts.specs.Pieces.{counted}
use Rattle.spindle_locks.specs.PieceRuns.{piece_at, piece_start}
use Rattle.spindle_locks.specs.Reports.{numbers_of, IsAnswered, HasFailed, IsReport}
use Rattle.spindle_locks.specs.declared.pieces.report.Report.{Report}
use Rattle.spindle_commands.specs.Faults.{Tells, HasBad, IsOutcome}
use Rattle.spindle_commands.specs.declared.faults.Outcome.{Outcome}

module _ (bad : ℕ) where
  abbrev with_bad : ℕ → (ℕ × ℕ)
  with_bad number = (number, bad)

  -- where one of the answers to numbers is a failure, the bad one is among the numbers
  bad_among : (numbers : List ℕ) (answers : List Bool) (k : ℕ) (d : Bool) → AllZip Tells (map with_bad numbers) answers
      → k < length answers → get_or answers k d ≡ true → Contains numbers bad
  bad_among numbers [] k d z lt e = absurd (omega (arith, lt))
  bad_among [] (a ∷ answers) k d z lt e = absurd z
  bad_among (n ∷ numbers) (a ∷ answers) zero d z lt e = (0, omega arith, z.0.0 e)
  bad_among (n ∷ numbers) (a ∷ answers) (suc k) d z lt e =
      let h = bad_among numbers answers k d z.1 (omega (arith, lt)) e in let inside = h.1 in (suc h.0, omega arith, h.2)

  -- the pieces of numbers, each with the bad one
  piece_with_bad : (numbers : List ℕ) (n k : ℕ) → piece_at (map with_bad numbers) n k ≡ map with_bad (piece_at numbers n k)
  piece_with_bad numbers n k =
      let from : ℕ → ℕ = λ len. piece_start len n k in
      let long : ℕ → ℕ = λ len. piece_start len n (k + 1) - from len in
      let len = length numbers in
      ap (λ l. take (long l) (drop (from l) (map with_bad numbers))) (length-map numbers with_bad)
      ∙ ap (take (long len)) (drop-map with_bad (from len) numbers)
      ∙ take-map with_bad (long len) (drop (from len) numbers)

  -- a piece that has failed has the bad number
  failed_has_bad : (count n : ℕ) (piece : ℕ × Vec Bool Global) → IsAnswered Tells (map with_bad (counted 0 count)) n piece
      → HasFailed (λ failed. IsTrue failed) piece → HasBad count n bad piece.0
  failed_has_bad count n piece answered failed =
      let numbers = counted 0 count in
      bad_among (piece_at numbers n piece.0) piece.1.items failed.0 failed.1
      (subst (λ xs. AllZip Tells xs piece.1.items) (piece_with_bad numbers n piece.0) answered) failed.2 (failed.3 ∙ failed.4)

  -- one of the pieces that ran has the bad number, where one has failed
  any_has_bad : (count n : ℕ) (ran : List (ℕ × Vec Bool Global)) → All (IsAnswered Tells (map with_bad (counted 0 count)) n) ran
      → Any (HasFailed (λ failed. IsTrue failed)) ran
      → Any (HasBad count n bad) (numbers_of ran)
  any_has_bad count n ran answers failed =
      let f : (ℕ × Vec Bool Global) → ℕ = λ piece. piece.0 in
      let k = failed.0 in let piece = failed.1 in let inside = failed.2 in
      let answered = subst (IsAnswered Tells (map with_bad (counted 0 count)) n) failed.3 (answers k piece inside) in
      let long = length-map ran f in (
        k,
        piece.0,
        omega (arith, long, inside),
        get_or-map f ran k piece piece.0 inside ∙ ap f failed.3,
        failed_has_bad count n piece answered failed.4,
      )

  -- what has the numbers of a report over these items is an outcome
  told : (count n : ℕ) (items : List (ℕ × ℕ)) (report : Report Bool) (outcome : Outcome) → items ≡ map with_bad (counted 0 count)
      → outcome.ran.items ≡ numbers_of report.ran.items → outcome.skipped.items ≡ report.skipped.items
      → IsReport Tells (λ failed. IsTrue failed) items n report → IsOutcome count n bad outcome
  told count n items report outcome same ran skipped r =
      let answers = subst (λ xs. All (IsAnswered Tells xs n) report.ran.items) same r.answers in record {
        ran = subst IsStrictlyIncreasing (sym ran) r.ran;
        skipped = subst IsStrictlyIncreasing (sym skipped) r.skipped;
        each_once = rw (ran, skipped) r.each_once;
        whole = λ none. ran ∙ r.whole (sym skipped ∙ none);
        stopped = ⊎_elim (λ none. inl (skipped ∙ none))
            (λ failed. inr (subst (Any (HasBad count n bad)) (sym ran) (any_has_bad count n report.ran.items answers failed))) r.stopped;
      }

  -- so is an answer that has them
  pub outcome_of : {E : Type 0} (count n : ℕ) (items : List (ℕ × ℕ)) (report : Report Bool) (r : Result Outcome E) → items ≡ map with_bad (counted 0 count)
      → IsReport Tells (λ failed. IsTrue failed) items n report → IfOk r (λ outcome. outcome.ran.items ≡ numbers_of report.ran.items)
      → IfOk r (λ outcome. outcome.skipped.items ≡ report.skipped.items) → IfOk r (IsOutcome count n bad)
  outcome_of count n items report (Ok outcome) same reported ran skipped = told count n items report outcome same ran skipped reported
  outcome_of count n items report (Err e) same reported ran skipped = tt
