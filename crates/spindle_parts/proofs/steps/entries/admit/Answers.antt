-- The list is no longer than the entries are many.
use Rattle.std.proofs.Common.{arith, rules}
use Rattle.spindle_parts.proofs.Marks.{marks_fit}
use Rattle.spindle_parts.proofs.steps.entries.admit.Goals as goal

pub overflow_sub-len : goal.overflow_sub-len
overflow_sub-len c = let size = c.args.saw.now.ok.0 in let n = c.len.ensures.len in
    let k = c.len-2.ensures in let fits = marks_fit c.args.entries.now c.args.saw.now.items _ c.args.party c.requires in omega arith

pub returns-in_err-reserve-clause-first : goal.returns-in_err-reserve-clause-first
returns-in_err-reserve-clause-first c = search rules
