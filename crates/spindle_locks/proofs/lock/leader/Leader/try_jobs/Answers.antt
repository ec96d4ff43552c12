-- A fresh tally fits all marks.
use Rattle.std.proofs.Common.{ℕ, ◌≤◌, true, ap, refl, subst, arith, ◌∙◌}
use Rattle.spindle_rounds.specs.Members.{LastPublished, party_view}
use Rattle.spindle_rounds.specs.Leftovers.{AreUnbegun, IsMarked}
use Rattle.spindle_rounds.specs.RoundSlots.{bare}
use Rattle.spindle_rounds.specs.RoundSteps.{round_of}
use Rattle.spindle_rounds.specs.RoundViews.{shown_of}
use Rattle.spindle_locks.specs.Leaders.{workers_of, view_of}
use Rattle.spindle_locks.proofs.LeaderRounds.{passed_on}
use Rattle.spindle_locks.proofs.lock.leader.Leader.try_jobs.Goals as goal

pub tally-requires-clause-fresh : goal.tally-requires-clause-fresh
tally-requires-clause-fresh g c = c.requires.blank.fresh c.as_slice.result.now

pub returns-in_err-hand_out : goal.returns-in_err-hand_out
returns-in_err-hand_out g c = rw (passed_on c.from_residual.result c.from_residual.ensures.1 c.in_err-hand_out.ensures)
    (record { tallied = tt; memory = (refl, refl); lock = (refl, refl) })

pub returns-then-threads-gt1 : goal.returns-then-threads-gt1
returns-then-threads-gt1 g c = let p = c.play_in_trays.ensures in let m = c.mark_left.ensures in let t = c.published-published.ensures in
    let played = rw (t.jobs, t.may_stop) at p.played in let last = rw (t.jobs, t.may_stop) at p.last in
    let q = round_of (view_of c.args.self.now).standing in let marks = c.mark_left.new.marks.items in
    let v = party_view c.play_in_trays.new.leader.member.barrier in let w = party_view c.mark_left.new.self.member.barrier in
    let counted : 2 ≤ c.args.pieces.now.count = omega (arith, c.if-count-gt1.true, c.count.ensures.number) in
    let workers : 2 ≤ workers_of c.args.self.now = omega (arith, c.if-threads-gt1.true, c.threads.ensures.number) in record {
      tallied = record {
        counted = m.count ∙ c.requires.blank.counted;
        tried = λ two. (
          (ap shown_of m.deeds ∙ played.0, m.standing ∙ played.1),
          (
            rw (p.tables, c.requires.blank.counted) at m.left,
            subst (λ (n : ℕ). LastPublished q n true v → AreUnbegun bare q n w (IsMarked marks)) c.requires.blank.counted (m.unbegun q true) last,
          ),
        );
        direct = λ one. absurd (omega arith);
        noted = rw (← c.as_slice.ensures.value) c.tally.ensures.noted;
        one = λ one. absurd (omega arith);
        alone = λ few. absurd (omega arith);
      };
      memory = tt;
      lock = (ap (λ t. t.now.counts.most) (m.tables ∙ p.tables), ap (λ t. t.now.counts.threads) (m.tables ∙ p.tables));
    }
