-- The outputs of one piece more stand at the end.
use Rattle.std.proofs.Common.{◌++◌, ap, sym, ◌∙◌}
use Rattle.spindle_locks.proofs.Reports.{outputs_snoc}
use Rattle.spindle_locks.proofs.pieces.report.Report.into_outputs.Goals as goal

pub loop-piece-preserved : goal.loop-piece-preserved
loop-piece-preserved g c = let piece = c.in-Some.piece in
    (rw c.in_ok-append.was at c.append.ensures.items) ∙ ap (λ t. t ++ piece.1.items) c.loop-piece.invariant ∙ sym (outputs_snoc c.loop-piece.yielded piece)
