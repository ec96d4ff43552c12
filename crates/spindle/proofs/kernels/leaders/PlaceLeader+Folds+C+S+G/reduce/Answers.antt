-- The totals of the pieces have the total of all.
use Rattle.std.proofs.Common.{◌≡◌, List, map, ap, sym, ◌∙◌}
use Rattle.std.proofs.lemmas.Simd.{map-map}
use Rattle.spindle_parts.specs.Pieces.{joined}
use Rattle.spindle.specs.Folds.{total_of}
use Rattle.spindle.specs.declared.lock.folds.Part.{Part}
use Rattle.spindle.proofs.Folds.{total_of_chunks}
use Rattle.spindle.proofs.KernelLists.{all_zip_map}
use Rattle.spindle.proofs.kernels.leaders.PlaceLeader+Folds+C+S+G.reduce.Goals as goal

pub returns-clause-answer : goal.returns-clause-answer
returns-clause-answer g c =
    let C = g.C.Combine in
    let laws = g.met.C.Combine in
    let P : Type 0 = Part g.row.S.Denot g.row.C-Total.Denot in
    let items = g.S.Source.items in
    let old : List P = c.in_ok-parts.parts.items in
    let new : List P = c.update_all.new.items.items in
    let whole : joined (map (λ part. items part.source) old) ≡ items c.args.source.now =
    ap joined (sym (map-map items (λ (part : P). part.source) old) ∙ ap (map items) c.in_ok-parts.ensures) ∙ c.in_ok-parts_of.ensures.joined in
    let totals = all_zip_map (λ chunk total. total ≡ total_of C.combine C.neutral C.of chunk) (λ (part : P). items part.source) (λ (part : P). part.total) old new
    c.in_ok-update_all.ensures.updated in
    c.combined.ensures
    ∙ total_of_chunks C.combine C.neutral C.of laws.associative laws.is_neutral (map (λ (part : P). items part.source) old) (map (λ (part : P). part.total) new)
    totals
    ∙ ap (total_of C.combine C.neutral C.of) whole
