-- A tally of which nothing is lost makes a report.
use Rattle.std.proofs.Common.{refl, inl, inr, sym, ◌∙◌, ⊎_elim}
use Rattle.spindle_locks.proofs.Reports.{least_none, report_of, skipped_marked}
use Rattle.spindle_locks.proofs.pieces.tally.Tally.finish.Goals as goal

pub returns-in-None-clause-report : goal.returns-in-None-clause-report
returns-in-None-clause-report g c = let p = c.args.pieces.now in let t = c.args.self in let n = c.requires.noted in
    let whole = least_none t.failed t.lost t.skipped.items (sym c.lost_number.ensures ∙ c.in-None.is) in
    report_of g.J.Job.meets g.J.Job.fails p.items p.count c.args.left.now t (record { ran = t.ran; skipped = t.skipped }) refl refl (n.told whole.0)
    n.answers (⊎_elim (λ none. inl none) (λ failed. inr (n.failed failed)) whole.1)

pub returns-in-None-clause-skipped : goal.returns-in-None-clause-skipped
returns-in-None-clause-skipped g c = let p = c.args.pieces.now in let t = c.args.self in
    let whole = least_none t.failed t.lost t.skipped.items (sym c.lost_number.ensures ∙ c.in-None.is) in
    skipped_marked p.count c.args.left.now t t.skipped.items c.requires.marks refl (c.requires.noted.told whole.0)
