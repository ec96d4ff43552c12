-- A fresh tally fits all marks.
use Rattle.std.proofs.Common.{ℕ, true, ⊎_elim, inl, refl, ap, sym, subst, ◌∙◌, arith}
use Rattle.std.proofs.lemmas.Bool.{false≢true}
use Rattle.spindle_rounds.specs.Members.{LastPublished, party_view}
use Rattle.spindle_rounds.specs.Leftovers.{AreUnbegun, IsMarked}
use Rattle.spindle_rounds.specs.RoundSlots.{bare}
use Rattle.spindle_rounds.specs.RoundShown.{Stopped}
use Rattle.spindle_rounds.specs.RoundSteps.{round_of}
use Rattle.spindle_rounds.specs.RoundViews.{shown_of, stopped_of}
use Rattle.spindle_rounds.specs.SlotSteps.{IsDeed}
use Rattle.spindle_rounds.proofs.Leftovers.{stopped_begun}
use Rattle.spindle_locks.specs.Leaders.{view_of}
use Rattle.spindle_locks.specs.Stops.{HasStoppedAt}
use Rattle.spindle_locks.proofs.LeaderRounds.{not_one, not_two, passed_on}
use Rattle.spindle_locks.proofs.lock.leader.Leader.try_alone.Goals as goal

pub tally_buffers-requires-clause-fresh : goal.tally_buffers-requires-clause-fresh
tally_buffers-requires-clause-fresh g c κs within = c.requires.blank.fresh c.as_slice.result.now

pub tally_buffers-requires-2-clause-fresh : goal.tally_buffers-requires-2-clause-fresh
tally_buffers-requires-2-clause-fresh g c κs within = c.requires.blank.fresh c.as_slice-2.result.now

pub tally_buffers-requires-2-clause-unmarked : goal.tally_buffers-requires-2-clause-unmarked
tally_buffers-requires-2-clause-unmarked g c κs within = λ lt marked. let p = c.play_sequential-failed.ensures in let m = c.mark_left.ensures in
    let n = c.args.pieces.now.count in let f = c.play_sequential-failed.result in let q = round_of (view_of c.args.self.now).standing in
    let w = party_view c.mark_left.new.self.member.barrier in let marks = c.mark_left.new.marks.items in
    let v = party_view c.play_sequential-failed.new.leader.member.barrier in
    ⊎_elim (λ none. absurd (omega (arith, lt, none.0)))
    (λ (at : HasStoppedAt n f (view_of c.args.self.now) v). stopped_begun bare w q n f (IsMarked marks) m.moment
    (subst (λ (n : ℕ). LastPublished q n true v → AreUnbegun bare q n w (IsMarked marks)) c.requires.blank.counted (m.unbegun q true) p.last)
    (subst (IsDeed (Stopped q f)) (sym (ap stopped_of m.deeds ∙ at.2)) (inl refl)) (rw c.as_slice-2.ensures.value at marked)) p.stops

pub returns-in_err-buffers : goal.returns-in_err-buffers
returns-in_err-buffers g c = rw (passed_on c.from_residual.result c.from_residual.ensures.1 c.in_err-buffers.ensures.memory)
    (record { tallied = tt; memory = (refl, refl); lock = (refl, refl) })

pub returns : goal.returns
returns g c = let p = c.play_sequential-failed.ensures in let m = c.mark_left.ensures in let e = c.tally_buffers-2.ensures in
    let q = round_of (view_of c.args.self.now).standing in let marks = c.mark_left.new.marks.items in
    let v = party_view c.play_sequential-failed.new.leader.member.barrier in let w = party_view c.mark_left.new.self.member.barrier in
    record {
      tallied = record {
        counted = m.count ∙ c.requires.blank.counted;
        tried = λ two. (
          (ap shown_of m.deeds ∙ p.played.0, m.standing ∙ p.played.1),
          (
            rw (p.tables, c.requires.blank.counted) at m.left,
            subst (λ (n : ℕ). LastPublished q n true v → AreUnbegun bare q n w (IsMarked marks)) c.requires.blank.counted (m.unbegun q true) p.last,
          ),
        );
        direct = λ one. absurd (not_one _ _ c.count.ensures.number c.count.ensures.some c.if-count-eq1.false one);
        noted = rw (← c.as_slice-2.ensures.value) e.noted;
        one = λ _. e.whole;
        alone = λ _. (
          e.whole,
          λ two none. ⊎_elim (λ still. ap stopped_of m.deeds ∙ still.1) (λ at. absurd (false≢true (sym none ∙ e.told at.0))) p.stops,
        );
      };
      memory = tt;
      lock = (ap (λ t. t.now.counts.most) (m.tables ∙ p.tables), ap (λ t. t.now.counts.threads) (m.tables ∙ p.tables));
    }

pub returns-then-count-eq1 : goal.returns-then-count-eq1
returns-then-count-eq1 g c = let e = c.tally_buffers.ensures in
    record {
      tallied = record {
        counted = c.requires.blank.counted;
        tried = λ two. absurd (not_two _ _ c.count.ensures.number c.if-count-eq1.true two);
        direct = λ _. (refl, c.requires.blank.unmarked);
        noted = rw (← c.as_slice.ensures.value) e.noted;
        one = λ _. e.whole;
        alone = λ _. (e.whole, λ two none. refl);
      };
      memory = tt;
      lock = (refl, refl);
    }
