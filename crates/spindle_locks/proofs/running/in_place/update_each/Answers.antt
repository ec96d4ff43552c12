-- One more item was updated.
use Rattle.std.proofs.Common.{◌≡◌, ◌++◌, ◌∷◌, [], reverse, rules, arith, refl, ap, sym, subst, ◌∙◌, append_assoc, append-nil}
use Rattle.std.specs.List.{AllZip}
use mathlib.Core.List.{reverse-append}
use Rattle.spindle_parts.proofs.ListLaws.{all_zip_append}
use Rattle.spindle_locks.proofs.InPlace.{nothing_left, one_fits, some_ready}
use Rattle.spindle_locks.proofs.running.in_place.update_each.Goals as goal

pub loop-init : goal.loop-init
loop-init g c = record {
  updated = ([], refl, subst (λ ys. AllZip g.J.Updates.updated [] ys) (sym c.requires.empty) (tt {0}));
  len = search rules;
  left = search rules;
  room = search rules;
}

pub loop-preserved : goal.loop-preserved
loop-preserved g c = let i = c.loop.invariant in let R = g.J.Updates.updated in let x = c.take_last.result in let y = c.update-updated.result in
    let todo = c.take_last.new.self.items in let before = i.updated.0 in
    let split : reverse c.loop.lists.todo.items ≡ x ∷ reverse todo = ap reverse c.take_last.ensures.items ∙ reverse-append todo (x ∷ []) in record {
      updated = (
        before ++ x ∷ [],
        i.updated.1 ∙ (ap (λ l. before ++ l) split ∙ sym (append_assoc before (x ∷ []) (reverse todo))),
        subst (λ ys. AllZip R (before ++ x ∷ []) ys) (sym c.push_reserved.ensures.items)
            (all_zip_append R before c.loop.lists.done.items (x ∷ []) (y ∷ []) i.updated.2 (c.update-updated.ensures x refl, tt {0})),
      );
      len = omega (arith, c.push_reserved.ensures.len, i.len);
      left = omega (arith, c.take_last.ensures.len, i.left);
      room = omega (arith, c.push_reserved.ensures.capacity, i.room);
    }

pub take_last-requires : goal.take_last-requires
take_last-requires g c = some_ready _ _ _ c.loop.invariant.left c.loop-test.true

pub push_reserved-requires : goal.push_reserved-requires
push_reserved-requires g c = let i = c.loop.invariant in one_fits _ _ _ _ i.len c.loop-test.true i.room

pub returns-clause-none : goal.returns-clause-none
returns-clause-none g c = nothing_left _ _ _ _ c.loop.lists.todo.ok.0 c.loop.invariant.left c.loop-test.false

pub returns-clause-updated : goal.returns-clause-updated
returns-clause-updated g c = let R = g.J.Updates.updated in let done = c.loop.invariant.updated in
    let none = nothing_left _ _ _ _ c.loop.lists.todo.ok.0 c.loop.invariant.left c.loop-test.false in
    subst (λ xs. AllZip R xs c.loop.lists.done.items) (sym (done.1 ∙ (ap (λ t. done.0 ++ reverse t) none ∙ append-nil done.0))) done.2
