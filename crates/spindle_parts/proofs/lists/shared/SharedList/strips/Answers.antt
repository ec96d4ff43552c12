-- One strip more has the items of one run more, and knows the edge on both sides.
use Rattle.std.proofs.Common.{◌≡◌, ℕ, List, [], ◌∷◌, ◌++◌, length, map, refl, ap, sym, ◌∙◌}
use Rattle.std.proofs.lemmas.List.Elements.{All-push}
use Rattle.spindle_parts.proofs.ListLaws.{map_snoc}
use Rattle.spindle_parts.specs.declared.lists.strips.Strip.{Strip}
use Rattle.spindle_parts.proofs.lists.shared.SharedList.strips.Goals as goal

pub loop-run-preserved : goal.loop-run-preserved
loop-run-preserved g c = let i = c.loop-run.invariant in let xs = c.loop-run.strips.items in let copy = c.in_ok-copied.field-0.items in
    let runs = c.loop-run.yielded in let run : List g.row.T.Denot = c.in-Some.run' in
    let items : Strip g.row.T.Denot g.row.N.Denot → List g.row.T.Denot = λ strip. strip.items.items in
    let long : List g.row.T.Denot → ℕ = λ run. length run in let same : copy ≡ run = c.in_ok-copied.ensures ∙ c.as_slice.ensures in record {
      items = rw c.in_ok-push.ensures.items (map_snoc items xs _ ∙ (ap (λ l. l ++ copy ∷ []) i.items ∙ ap (λ l. runs ++ l ∷ []) same));
      lengths = rw c.in_ok-push.ensures.items (map_snoc (λ (strip : Strip g.row.T.Denot g.row.N.Denot). length strip.items.items) xs _
          ∙ (ap (λ l. l ++ length copy ∷ []) i.lengths ∙ (ap (λ l. map long runs ++ length l ∷ []) same ∙ sym (map_snoc long runs run))));
      edges = rw c.in_ok-push.ensures.items
          (All-push (λ (strip : Strip g.row.T.Denot g.row.N.Denot). (strip.before ≡ c.args.edge) × (strip.behind ≡ c.args.edge)) xs _ i.edges (refl, refl));
      notes = rw c.in_ok-push.ensures.items (All-push (λ (strip : Strip g.row.T.Denot g.row.N.Denot). strip.note ≡ c.args.note) xs _ i.notes refl);
    }
