-- The rest of a tray's run ends where the next one begins.
use Rattle.std.proofs.Common.{◌≡◌, ℕ, ◌+◌, ◌-◌, ◌/◌, ◌<◌, ◌≤◌, arith, subst, sym, ◌∙◌}
use Rattle.std.proofs.lemmas.Nat.{div-add-mod'}
use Rattle.spindle_locks.proofs.Addresses.{run_ends}
use Rattle.spindle_locks.proofs.PieceRuns.{answered_all}
use Rattle.spindle_locks.specs.PieceRuns.{HasAnswered}
use Rattle.spindle_locks.proofs.pieces.trays.Trays.move_outputs.Goals as goal
use Rattle.spindle_locks.proofs.pieces.trays.Trays.move_outputs.Goals.{then-done-each+in_ok-gather, else-done-each}

pub gather-requires-clause-numbers : goal.gather-requires-clause-numbers
gather-requires-clause-numbers g c =
    let there : c.loop-thread.thread < c.len-threads.result = omega (arith, c.loop-thread-test.true) in
    omega (arith, run_ends c.count.result c.len-threads.result c.loop-thread.thread (omega (arith, there)) there)

pub loop-thread-preserved : goal.loop-thread-preserved
loop-thread-preserved g c =
    let p = c.args.pieces.now in let i = c.loop-thread.invariant in
    elim c.if-done-each.branch [
      | then-done-each+in_ok-gather w ↦ (
        omega (arith, w.next-is),
        let to : c.loop-thread.next + (c.count.result / c.len-threads.result - c.min-done.result) ≡ c.if-done-each.next =
            omega (arith, w.next-is, w.if-done-each.true, i.0) in
            rw w.outputs-is (subst (λ (n : ℕ). HasAnswered g.J.Job.meets p.items p.count n w.gather.new.outputs) to w.in_ok-gather.ensures.answers),
      )
      | else-done-each w ↦ (omega (arith, w.next-is, w.if-done-each.false, i.0), rw (w.next-is, w.outputs-is) i.1)
    ]

pub returns-clause-answers : goal.returns-clause-answers
returns-clause-answers g c = let p = c.args.pieces.now in let i = c.loop-thread-2.invariant in let e = c.count.ensures.number in
    let past = rw (c.count-2.ensures.number ∙ sym e) at c.loop-thread-2-test.false in
    let end : p.count ≤ c.loop-thread-2.next = omega (arith, i.0, past, e, div-add-mod' c.count.result c.len-threads.result) in
    answered_all g.J.Job.meets p.items p.count c.loop-thread-2.next c.loop-thread-2.outputs p.some end i.1
