-- The pieces are the list, of the lengths into which it was cut.
use Rattle.std.proofs.Common.{map, ap, sym, ◌∙◌, vec_len}
use Rattle.std.proofs.lemmas.Simd.{map-map}
use Rattle.spindle_parts.specs.Pieces.{joined}
use Rattle.spindle.proofs.lock.attempts.attempts_of.Goals as goal

pub returns-clause-whole : goal.returns-clause-whole
returns-clause-whole g c = let new = c.in_ok-with_stop.field-0.items in let pieces = c.in_ok-pieces.pieces.items in
    ap joined (sym (map-map (λ v. v.items) (λ attempt. attempt.items) new) ∙ ap (map (λ v. v.items)) c.in_ok-with_stop.ensures.items
    ∙ map-map (λ v. v.items) (λ piece. piece.items) pieces) ∙ c.in_ok-pieces.ensures.joined

pub returns-clause-lengths : goal.returns-clause-lengths
returns-clause-lengths g c = let new = c.in_ok-with_stop.field-0.items in let pieces = c.in_ok-pieces.pieces.items in
    sym (map-map (λ v. vec_len v) (λ attempt. attempt.items) new) ∙ ap (map (λ v. vec_len v)) c.in_ok-with_stop.ensures.items
    ∙ map-map (λ v. vec_len v) (λ piece. piece.items) pieces ∙ c.in_ok-pieces.ensures.lengths
