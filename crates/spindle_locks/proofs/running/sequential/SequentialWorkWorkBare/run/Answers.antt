-- The piece of the number has run, and where it failed the round is stopped by that number.
use Rattle.std.proofs.Common.{◌≡◌, ◌<◌, ◌∷◌, ◌∙◌, ℕ, true, inl, inr, ap, sym, subst, rules}
use Rattle.spindle_rounds.specs.RoundShown.{Stopped}
use Rattle.spindle_rounds.specs.RoundSteps.{round_of}
use Rattle.spindle_rounds.specs.RoundViews.{stops_of}
use Rattle.spindle_locks.specs.Reports.{AreBuffers}
use Rattle.spindle_locks.specs.Stops.{HasFailedIn, StopsBy}
use Rattle.spindle_locks.proofs.running.sequential.SequentialWorkWorkBare.run.Goals as goal
use Rattle.spindle_locks.proofs.running.sequential.SequentialWorkWorkBare.run.Goals.{then-run_piece, else-run_piece, then-failed, else-failed}

-- only a piece that failed stops it
has_failed : (g : _) (c : goal.After-drop-finished-inside-2 g) → c.if-run_piece.failed ≡ true → c.run_piece.result ≡ true
has_failed g c stops = elim c.if-run_piece.branch [
  | then-run_piece w ↦ w.if-run_piece.true
  | else-run_piece w ↦ sym w.failed-is ∙ stops
]

pub returns-clause-holds : goal.returns-clause-holds
returns-clause-holds g c = let e = c.run_piece.ensures in elim c.if-failed.branch [
  | then-failed w ↦ subst (λ s. AreBuffers g.J.Job.meets s.pieces.now.items s.pieces.now.count 0 s.buffers.items
      × HasFailedIn g.J.Job.fails 0 s.failed s.buffers.items)
      (sym w.self-is) (e.fit, (e.failed (has_failed g c w.if-failed.true)).1)
  | else-failed w ↦ subst (λ s. AreBuffers g.J.Job.meets s.pieces.now.items s.pieces.now.count 0 s.buffers.items
      × HasFailedIn g.J.Job.fails 0 s.failed s.buffers.items)
      (sym w.self-is) (
        e.fit,
        subst (λ (f : ℕ). HasFailedIn g.J.Job.fails 0 f c.run_piece.new.self.buffers.items) (sym e.pieces.1)
            (e.kept c.args.self.now.failed c.requires.taken.1.1),
      )
]

pub returns-clause-keeps : goal.returns-clause-keeps
returns-clause-keeps g c = let e = c.run_piece.ensures in let f = c.finish.ensures in let old = c.args.self.now in
    let v = c.args.seat.now.me.0 in elim c.if-failed.branch [
      | then-failed w ↦ let same : c.number-number.result ≡ c.args.claimed = search rules in
          subst (λ s. (s.pieces ≡ old.pieces) × StopsBy old.pieces.now.count old.failed v s.failed c.finish.new.seat.me.0) (sym w.self-is) (
            e.pieces.0,
            (
              f.finished.0.standing,
              inr (
                subst (λ p. c.number-number.result < p.now.count) e.pieces.0 (e.failed (has_failed g c w.if-failed.true)).0,
                stops_of v.trail,
                (rw w.if-failed.true at f.stops) ∙ ap (λ (k : ℕ). Stopped (round_of v.standing) k ∷ stops_of v.trail) (sym same),
              ),
            ),
          )
      | else-failed w ↦ subst (λ s. (s.pieces ≡ old.pieces) × StopsBy old.pieces.now.count old.failed v s.failed c.finish.new.seat.me.0) (sym w.self-is)
          (e.pieces.0, (f.finished.0.standing, inl (e.pieces.1, rw w.if-failed.false at f.stops)))
    ]
