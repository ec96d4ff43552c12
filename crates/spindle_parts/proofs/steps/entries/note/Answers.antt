-- There is room for one more in the list, which keeps its marks.
use Rattle.std.proofs.Common.{ℕ, List, sym, ◌∙◌, subst, arith}
use Rattle.spindle_parts.specs.Entries.{IsMarked}
use Rattle.spindle_parts.proofs.Marks.{mark_fits, marked_more}
use Rattle.spindle_parts.proofs.steps.entries.note.Goals as goal

pub push_reserved-requires : goal.push_reserved-requires
push_reserved-requires c = let size = c.args.saw.now.ok.0 in
    let fits = mark_fits c.args.entries.now c.args.saw.now.items _ c.args.party c.requires.marks c.requires.known (sym c.has_seen.ensures
    ∙ c.if-has_seen.false) in omega arith

pub returns-clause-marks : goal.returns-clause-marks
returns-clause-marks c = let size = c.args.saw.now.ok.0 in
    let n = c.len-mark.ensures in let items = c.push_reserved.ensures.items in let room = c.push_reserved.ensures.capacity in
    subst (λ (w : List ℕ × ℕ). IsMarked c.set_mark.new.entries w.0 w.1) (λ i. (sym items i, sym room i))
    (marked_more c.args.entries.now c.args.saw.now.items _ c.args.party c.requires.marks c.requires.known (sym c.has_seen.ensures
    ∙ c.if-has_seen.false) c.set_mark.new.entries c.len-mark.result (omega arith) c.set_mark.ensures.written)
