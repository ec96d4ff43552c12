-- Who stands in the list stands at its entry's mark.
use Rattle.std.proofs.Common.{sym, ◌∙◌, arith}
use Rattle.std.proofs.lemmas.Bool.{le-ltb}
use Rattle.spindle_parts.proofs.Marks.{unknown_unseen, past_unseen, seen_at}
use Rattle.spindle_parts.proofs.steps.entries.has_seen.Goals as goal

pub returns-in-None : goal.returns-in-None
returns-in-None c = sym (unknown_unseen c.args.entries.now c.args.saw.now.items _ c.args.party c.requires (sym c.in-None.ensures.value))

pub returns-then-entry-len : goal.returns-then-entry-len
returns-then-entry-len c = let size = c.args.saw.now.ok.0 in let n = c.len.ensures in let lt = c.if-entry-len.true in
    seen_at c.args.entries.now c.args.saw.now.items _ c.args.party c.requires c.in-Some.entry.now
    (sym c.in-Some.ensures.value) c.index.result.now (omega arith) c.index.ensures

pub returns-else-entry-len : goal.returns-else-entry-len
returns-else-entry-len c = let size = c.args.saw.now.ok.0 in let n = c.len.ensures in let le = c.if-entry-len.false in
    le-ltb c.in-Some.entry.now.mark c.len.result le
    ∙ sym (past_unseen c.args.entries.now c.args.saw.now.items _ c.args.party c.requires c.in-Some.entry.now (sym c.in-Some.ensures.value) (omega arith))
