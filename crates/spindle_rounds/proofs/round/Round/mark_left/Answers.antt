-- Each word is read once, and what stands there is marked.
use Rattle.std.proofs.Common.{rules, arith, ◌≡◌, ◌↔◌, ⊎_elim, inl, inr, ◌∙◌, ℕ, ◌+◌, ◌<◌, ◌≤◌, ap, sym, subst, refl, length}
use Rattle.spindle_rounds.specs.RoundRule.{stored_at}
use Rattle.spindle_rounds.specs.RoundShown.{Showed, deeds_of}
use Rattle.spindle_rounds.specs.RoundConditions.{MayFill}
use Rattle.spindle_rounds.specs.SlotSteps.{IsDeed}
use Rattle.spindle_rounds.specs.Leftovers.{AreKnown, IsLeftBy, IsMarked, last_left}
use Rattle.spindle_rounds.proofs.RoundClients.{left_seen}
use Rattle.spindle_rounds.proofs.RoundOnward.{onward_same, onward_then}
use Rattle.spindle_rounds.proofs.Leftovers.{Found, every_leftover, found_none, range_found, rest_found}
use Rattle.spindle_rounds.proofs.round.Round.mark_left.Goals as goal

-- what is known and marked once the remainder was read too
at_last : (g : _) (c : goal.After-mark-2 g) → let w = c.left-rest.new.seat.me.0 in let t : ℕ = c.args.self.now.init.threads in
    let n : ℕ = length c.loop-thread.marks.items in let marks = c.mark-2.new.marks.items in
    AreKnown (stored_at w.known.stored) t × ((k : ℕ) → IsMarked marks k ↔ IsLeftBy (stored_at w.known.stored) t n k)
    × ((k : ℕ) → IsMarked marks k ↔ IsLeftBy (last_left w.trail) t n k)
at_last g c = let i = c.loop-thread.invariant in let m = c.loop-thread.seat.me in let w = c.left-rest.new.seat.me in let x = c.left-rest.result in
    let t = c.args.self.now.init.threads in let old = c.requires.between in let marks = c.loop-thread.marks in
    let may : MayFill m.0 = ((old.0.0, i.on.standing ∙ old.0.1), i.on.unpublished ∙ old.1) in
    let jobs : c.len-jobs.result ≡ length marks.items = search rules in let from = c.saturating_sub.ensures in
    let thread : c.loop-thread.thread ≡ t = search rules in
    rest_found m.0 w.0 marks.items c.mark-2.new.marks.items may t x (ap (λ z. z.0) (c.left-rest.ensures.step.1 refl))
    (subst (λ (a : ℕ). Found a (stored_at m.0.known.stored) (last_left m.0.trail) marks.items) thread i.found)
    (λ k. let marked = c.mark-2.ensures.marked k in (
      (λ z. ⊎_elim inl (λ (new : (c.saturating_sub.result ≤ k) × (k < c.len-jobs.result) × (k < length marks.items)). let a = new.0 in let b = new.2 in
          inr (omega arith, b)) (marked.0 z)),
      λ z. marked.1 (⊎_elim inl (λ (new : (length marks.items ≤ k + x) × (k < length marks.items)). let a = new.0 in let b = new.1 in
          inr (omega arith, omega arith, b)) z),
    ))

pub loop-thread-init : goal.loop-thread-init
loop-thread-init g c = let v = c.args.seat.now.me.0 in record {
  table = refl;
  id = refl;
  hands = refl;
  on = onward_same v;
  same = ((refl, refl), refl);
  deeds = refl;
  count = refl;
  found = found_none (stored_at v.known.stored) (last_left v.trail) c.args.marks.now.items c.requires.unmarked;
}

pub left-range-requires-clause-seated : goal.left-range-requires-clause-seated
left-range-requires-clause-seated g c = c.loop-thread.invariant.table ∙ c.requires.seated

pub loop-thread-preserved : goal.loop-thread-preserved
loop-thread-preserved g c = let i = c.loop-thread.invariant in let e = c.left-range.ensures in let k = c.loop-thread.thread in let x = c.left-range.result in
    let m = c.loop-thread.seat.me in let w = c.left-range.new.seat.me in let t = c.args.self.now.init.threads in let lt = c.loop-thread-test.true in
    let s = left_seen m w t k x (omega arith) e.step in let is = e.step.0 lt in let old = c.requires.between in
    let may : MayFill m.0 = ((old.0.0, i.on.standing ∙ old.0.1), i.on.unpublished ∙ old.1) in record {
      table = e.seat.0 ∙ i.table;
      id = e.seat.1 ∙ i.id;
      hands = ap (λ z. z.1) is ∙ i.hands;
      on = onward_then c.args.seat.now.me.0 m.0 w.0 i.on s.0;
      same = ((s.2.0 ∙ i.same.0.0, s.2.1 ∙ i.same.0.1), s.3 ∙ i.same.1);
      deeds = ap (λ z. deeds_of z.0.trail) is ∙ i.deeds;
      count = c.mark.ensures.count ∙ i.count;
      found = range_found m.0 w.0 c.loop-thread.marks.items c.mark.new.marks.items may k x (ap (λ z. z.0) is) i.found c.mark.ensures.count
          c.mark.ensures.marked;
    }

pub left-rest-requires-clause-seated : goal.left-rest-requires-clause-seated
left-rest-requires-clause-seated g c = c.loop-thread.invariant.table ∙ c.requires.seated

pub returns-clause-seat : goal.returns-clause-seat
returns-clause-seat g c = let i = c.loop-thread.invariant in let e = c.left-rest.ensures in
    ((e.seat.0 ∙ i.table, e.seat.1 ∙ i.id), ap (λ z. z.1) (e.step.1 refl) ∙ i.hands)

pub returns-clause-goes_on : goal.returns-clause-goes_on
returns-clause-goes_on g c = let m = c.loop-thread.seat.me in let w = c.left-rest.new.seat.me in let t = c.args.self.now.init.threads in
    onward_then c.args.seat.now.me.0 m.0 w.0 c.loop-thread.invariant.on (left_seen m w t t c.left-rest.result (omega arith) c.left-rest.ensures.step).0

pub returns-clause-deeds : goal.returns-clause-deeds
returns-clause-deeds g c = ap (λ z. deeds_of z.0.trail) (c.left-rest.ensures.step.1 refl) ∙ c.loop-thread.invariant.deeds

pub returns-clause-moment : goal.returns-clause-moment
returns-clause-moment g c = let i = c.loop-thread.invariant in let old = c.requires.between in
    c.left-rest.ensures.moment refl ((old.0.0, i.on.standing ∙ old.0.1), i.on.unpublished ∙ old.1)

pub returns-clause-same : goal.returns-clause-same
returns-clause-same g c = let i = c.loop-thread.invariant in let t = c.args.self.now.init.threads in
    let s = left_seen c.loop-thread.seat.me c.left-rest.new.seat.me t t c.left-rest.result (omega arith) c.left-rest.ensures.step in
    ((s.2.0 ∙ i.same.0.0, s.2.1 ∙ i.same.0.1), s.3 ∙ i.same.1)

pub returns-clause-left : goal.returns-clause-left
returns-clause-left g c = let n = c.loop-thread.invariant.count in
    subst (λ (a : ℕ). (k : ℕ) → IsMarked c.mark-2.new.marks.items k ↔ IsLeftBy (last_left c.left-rest.new.seat.me.0.trail) c.args.self.now.init.threads a k) n
    (at_last g c).2

pub returns-clause-unbegun : goal.returns-clause-unbegun
returns-clause-unbegun g c = λ q may_stop laid shown t s rule at k. let i = c.loop-thread.invariant in let n = i.count in let w = c.left-rest.new.seat.me.0 in
    let old = c.requires.between in let m = c.loop-thread.seat.me.0 in
    let on = (left_seen c.loop-thread.seat.me c.left-rest.new.seat.me c.args.self.now.init.threads c.args.self.now.init.threads c.left-rest.result (omega arith)
    c.left-rest.ensures.step).0 in let all = onward_then c.args.seat.now.me.0 m w i.on on in let deeds = returns-clause-deeds g c in
    let sized : w.threads ≡ c.args.self.now.init.threads = all.threads ∙ c.requires.sized in let found = at_last g c in
    let length_is : ℕ = length c.args.marks.now.items in
    let tells = every_leftover g.D.SlotContents.discipline w q length_is may_stop ((old.0.0, all.standing ∙ old.0.1), all.unpublished ∙ old.1) (all.laid ∙ laid)
    (subst (IsDeed (Showed q length_is may_stop)) (sym deeds) shown) (subst (AreKnown (stored_at w.known.stored)) (sym sized) found.0) t s rule at k in
    let marked = subst (λ (z : ℕ × ℕ). IsMarked c.mark-2.new.marks.items k ↔ IsLeftBy (stored_at w.known.stored) z.0 z.1 k) (λ j. (sym sized j, n j))
    (found.1 k) in ((λ z. tells.0 (marked.0 z)), λ z. marked.1 (tells.1 z))
