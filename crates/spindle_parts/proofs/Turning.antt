-- The round's end: the sense flips, and by it every member that has arrived is in.
use Rattle.std.proofs.Common.{◌≡◌, ◌≢◌, ℕ, ◌≤◌, Bool, true, false, not, List, [], sym, refl, ap, ◌∙◌, subst, Option, Some, None, ◌==◌}
use Rattle.std.specs.List.{list_any, IsDistinct}
use Rattle.std.specs.Ordering.{nat_cmp}
use Rattle.std.specs.BTreeMap.{BTreeMap, get, btree_map_len}
use Rattle.spindle_parts.specs.State.{Out, In, waking}
use Rattle.spindle_parts.specs.Machine.{Configuration, Seat, status, standing, turned}
use Rattle.spindle_parts.specs.Entries.{sense_of, running_of, IsMarked}
use Rattle.spindle_parts.specs.Registers.{shown, stands}
use Rattle.spindle_parts.specs.declared.steps.registers.Entry.{Entry}
use Rattle.spindle_parts.specs.declared.steps.registers.Registers.{Registers}
use Rattle.spindle_parts.proofs.Parties.{by_equal, put_here, put_else}

-- who isn't in is woken by the flip
flips : (word : Bool) (own : Option Bool) → stands word own ≢ In → stands (not word) own ≡ waking (stands word own)
flips true (Some true) n = absurd (n refl)
flips false (Some false) n = absurd (n refl)
flips word own n = refl

-- the registers once the round has ended
abbrev pub flipped : (r r' : Registers) → Registers
flipped r r' = record r { saw = r'.saw; sense = not r.sense; inside = r.members; closer = None; stoppable = false; stopped = false }

pub turned_is : (r r' : Registers) → r'.saw.items ≡ [] → r' ≡ flipped r r' → ((q : ℕ) → status (shown r) q ≢ In) → shown r' ≡ turned (shown r)
turned_is r r' emptied is none = ap shown is ∙ (λ i. record {
  seat = λ q. record {
    status = flips r.sense (sense_of (get nat_cmp r.entries q)) (none q) i;
    running = running_of (get nat_cmp r.entries q);
    seen = list_any (λ p. q == p) (emptied i);
  };
  inside = r.members;
  members = r.members;
  sense = not r.sense;
  closer = None;
  published = r.published;
  stoppable = false;
  stopped = false;
  finished = r.finished;
  counters = r.counters.items;
  remainder = r.remainder;
})

-- an empty list has every mark right
pub no_marks : (entries : BTreeMap ℕ Entry) (saw : List ℕ) (room : ℕ) → saw ≡ [] → btree_map_len entries ≤ room → IsMarked entries saw room
unfolding IsDistinct
no_marks entries saw room e fits = subst (λ (l : List ℕ). IsMarked entries l room) (sym e) record { marked = λ i p is. absurd cc; distinct = tt; room = fits }

-- where the last member goes, nobody is in
pub nobody : (m : Configuration) (p : ℕ) → ((q : ℕ) → q ≢ p → status m q ≡ Out) → (q : ℕ) → (standing m p Out q).status ≢ In
nobody m p others q e = by_equal q p
    (λ i. let a = ap (λ (z : ℕ). (standing m p Out z).status) i in
    let b = ap (λ (x : Seat). x.status) (put_here m.seat p (record (m.seat p) { status = Out })) in cc)
    (λ n. let a = ap (λ (x : Seat). x.status) (put_else m.seat p (record (m.seat p) { status = Out }) q n) in let b = others q n in cc)
