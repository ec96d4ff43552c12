-- The tally goes on with one piece more.
use Rattle.std.proofs.Common.{◌≡◌, ◌||◌, ℕ, ◌∙◌, ap, false, true, Option, Some, IfSome, Vec, Global, rules, refl, subst, unwrap_or, ⊎_elim}
use Rattle.std.specs.List.{AllZip, Any}
use Rattle.spindle_locks.specs.PieceRuns.{piece_at}
use Rattle.spindle_locks.specs.Reports.{is_marked}
use Rattle.spindle_locks.proofs.Reports.{either, first_kept, noted_lost, noted_ran, noted_skipped, or_true}
use Rattle.spindle_locks.proofs.pieces.tally.Tally.note.Goals as goal

pub returns-in-Some-clause-noted : goal.returns-in-Some-clause-noted
returns-in-Some-clause-noted g c = let p = c.args.pieces.now in let old = c.args.self.now in let e = c.push_reserved.ensures in
    let unmarked : is_marked c.args.left.now c.args.number ≡ false = search rules in
    let answered = subst (λ (o : Option (Vec g.row.T.Denot Global)). IfSome o
    (λ outputs. AllZip g.J.Job.meets (piece_at p.items p.count c.args.number) outputs.items)) c.in-Some.is c.requires.answers in
    noted_ran g.J.Job.meets g.J.Job.fails p.items p.count c.args.left.now c.args.number old (record {
      ran = c.push_reserved.new.self;
      skipped = old.skipped;
      failed = old.failed || (c.args.failed || c.has_failure.result);
      lost = old.lost;
    }) c.in-Some.outputs (c.args.failed || c.has_failure.result) unmarked answered (λ t. ⊎_elim
    (λ known. subst (λ (o : Option (Vec g.row.T.Denot Global)). IfSome o (λ outputs. Any g.J.Job.fails outputs.items)) c.in-Some.is (c.requires.failed known))
    (λ found. subst (Any g.J.Job.fails) c.as_slice.ensures.value (c.has_failure.ensures found)) (either c.args.failed c.has_failure.result t))
    e.len e.capacity e.items refl refl refl c.requires.noted

pub returns-in-Some-clause-failed : goal.returns-in-Some-clause-failed
returns-in-Some-clause-failed g c = λ was. ap (λ b. b || (c.args.failed || c.has_failure.result)) was

pub returns-in-Some-clause-told : goal.returns-in-Some-clause-told
returns-in-Some-clause-told g c = λ known. rw c.in-Some.is (λ unmarked. ap (λ b. c.args.self.now.failed || (b || c.has_failure.result)) known
    ∙ or_true c.args.self.now.failed)

pub returns-in-None-clause-told : goal.returns-in-None-clause-told
returns-in-None-clause-told g c = λ known. rw c.in-None.is tt

pub returns-in-None-clause-noted : goal.returns-in-None-clause-noted
returns-in-None-clause-noted g c = let p = c.args.pieces.now in let old = c.args.self.now in let e = c.push_reserved-in-None.ensures in
    let marked : is_marked c.args.left.now c.args.number ≡ true = search rules in
    noted_skipped g.J.Job.meets g.J.Job.fails p.items p.count c.args.left.now c.args.number old (record {
      ran = old.ran;
      skipped = c.push_reserved-in-None.new.self;
      failed = old.failed;
      lost = old.lost;
    }) marked refl e.len e.capacity e.items refl refl c.requires.noted

pub returns-in_default-clause-noted : goal.returns-in_default-clause-noted
returns-in_default-clause-noted g c = let p = c.args.pieces.now in let old = c.args.self.now in
    let first : c.unwrap_or.result ≡ unwrap_or old.lost c.args.number = search rules in
    noted_lost g.J.Job.meets g.J.Job.fails p.items p.count c.args.left.now c.args.number old (record {
      ran = old.ran;
      skipped = old.skipped;
      failed = old.failed;
      lost = Some c.unwrap_or.result;
    }) refl refl refl (ap (λ (k : ℕ). Some k) first ∙ first_kept old.lost c.args.number) c.requires.noted
