-- Writes to one party's entry, and what they leave of the marks.
use Rattle.std.proofs.Common.{◌≡◌, ◌≢◌, ◌⊎◌, inl, inr, ⊎_elim, ℕ, zero, suc, eqb, length-append, ◌<◌, ◌≤◌, Bool, true, false, List, [], ◌∷◌, ◌++◌, length, sym}
use Rattle.std.proofs.Common.{refl, ap, ◌∙◌, subst, arith, Option, Some, None, ◌==◌, ◌||◌, eq-eqb, ne_eqb, get_or}
use Rattle.std.specs.Option.{IfSome, IsSome}
use Rattle.std.specs.Map.{lookup}
use Rattle.std.specs.Cmp.{nat_eq_equiv}
use Rattle.std.specs.List.{slice_get, IsDistinct, list_any}
use Rattle.std.proofs.lemmas.Option.{slice_get_within, slice_get_read}
use Rattle.std.proofs.lemmas.Map.Keys.{any_passes_from_place, IsDistinct-push}
use Rattle.std.proofs.lemmas.Map.Steps.{length-le_from_keys}
use Rattle.std.proofs.lemmas.Bool.Decides.{nat_tests}
use Rattle.std.specs.Ordering.{nat_cmp, eq_by_cmp}
use Rattle.std.specs.BTreeMap.{BTreeMap, get, btree_map_len}
use Rattle.spindle_parts.specs.State.{put}
use Rattle.spindle_parts.specs.Machine.{Seat, status, is_inside, is_waiting}
use Rattle.spindle_parts.proofs.Parties.{by_equal, put_here, put_else}
use Rattle.spindle_parts.proofs.Fates.{not_true}
use Rattle.spindle_parts.specs.Entries.{Writes, sense_of, running_of, IsKnown, IsMarked}
use Rattle.spindle_parts.specs.Registers.{shown, stands}
use Rattle.spindle_parts.specs.declared.steps.registers.Entry.{Entry}
use Rattle.spindle_parts.specs.declared.steps.registers.Registers.{Registers}

known_by : (word : Bool) (o : Option Entry) → stands word (sense_of o) ≢ stands word None → (e : Entry) × (o ≡ Some e)
known_by word None n = absurd (n refl)
known_by word (Some e) n = (e, refl)

pub known_waiting : (r : Registers) (p : ℕ) → is_waiting (status (shown r) p) ≡ true → IsKnown r.entries p
known_waiting r p w = known_by r.sense (get nat_cmp r.entries p) (λ e. let a = ap is_waiting e in cc)

pub known_inside : (r : Registers) (p : ℕ) → is_inside (status (shown r) p) ≡ true → IsKnown r.entries p
known_inside r p w = known_by r.sense (get nat_cmp r.entries p) (λ e. let a = ap is_inside e in cc)

-- what is written to the entry of a party that is known
written_to : {old new : BTreeMap ℕ Entry} {p : ℕ} (f : Entry → Entry) (k : IsKnown old p)
    → IfSome (get nat_cmp old p) (λ e. Writes old new p (f e)) → Writes old new p (f k.0)
written_to {old} {new} {p} f k w = subst (λ (o : Option Entry). IfSome o (λ e. Writes old new p (f e))) k.1 w

module _ (old new : BTreeMap ℕ Entry) (saw : List ℕ) (room p : ℕ) (m : IsMarked old saw room) (k : IsKnown old p) where
  -- an entry that keeps its mark
  marks_kept : (e' : Entry) → e'.mark ≡ k.0.mark → Writes old new p e' → IsMarked new saw room
  marks_kept e' same w = record {
    marked = λ i q is. let x = m.marked i q is in by_equal q p
        (λ e. let was : Some x.0 ≡ Some k.0 = sym x.1 ∙ (ap (get nat_cmp old) e ∙ k.1) in
        let one : x.0 ≡ k.0 = cc in (e', ap (get nat_cmp new) e ∙ w.mine, same ∙ (sym (ap (λ (z : Entry). z.mark) one) ∙ x.2)))
        (λ n. (x.0, w.others q n ∙ x.1, x.2));
    distinct = m.distinct;
    room = let a = w.size in let b = m.room in omega arith;
  }

  pub sense_kept : (s : Option Bool) → IfSome (get nat_cmp old p) (λ e. Writes old new p (record e { sense = s })) → IsMarked new saw room
  sense_kept s w = marks_kept (record k.0 { sense = s }) refl (written_to (λ e. record e { sense = s }) k w)

  pub running_kept : (j : Option ℕ) → IfSome (get nat_cmp old p) (λ e. Writes old new p (record e { running = j })) → IsMarked new saw room
  running_kept j w = marks_kept (record k.0 { running = j }) refl (written_to (λ e. record e { running = j }) k w)

-- a party in a list stands at some place
found : (p : ℕ) (l : List ℕ) → list_any (λ q. p == q) l ≡ true → (i : ℕ) × (slice_get l i ≡ Some p)
found p [] e = absurd cc
found p (x ∷ xs) e = by_equal p x (λ i. (0, ap (λ (k : ℕ). let o : Option ℕ = Some k in o) (sym i)))
    (λ n. let r = found p xs (sym (ap (λ (b : Bool). b || list_any (λ q. p == q) xs) (ne_eqb p x n)) ∙ e) in (suc r.0, r.1))

module _ (entries : BTreeMap ℕ Entry) (saw : List ℕ) (room p : ℕ) (m : IsMarked entries saw room) where
  -- who has no entry saw nothing
  pub unknown_unseen : get nat_cmp entries p ≡ None → list_any (λ q. p == q) saw ≡ false
  unknown_unseen none = not_true (list_any (λ q. p == q) saw) (λ e. let f = found p saw e in let x = m.marked f.0 p f.1 in let a = sym none ∙ x.1 in cc)

  module _ (e : Entry) (known : get nat_cmp entries p ≡ Some e) where
    -- who stands in the list stands at its mark
    at_mark : list_any (λ q. p == q) saw ≡ true → slice_get saw e.mark ≡ Some p
    at_mark t = let f = found p saw t in let x = m.marked f.0 p f.1 in
        let a : Some e ≡ Some x.0 = sym known ∙ x.1 in let b : e ≡ x.0 = cc in ap (slice_get saw) (ap (λ (z : Entry). z.mark) b ∙ x.2) ∙ f.1

    pub past_unseen : length saw ≤ e.mark → list_any (λ q. p == q) saw ≡ false
    past_unseen le = not_true (list_any (λ q. p == q) saw) (λ t. let a = slice_get_within saw e.mark p (at_mark t) in absurd (omega arith))

    -- what stands at its mark decides
    pub seen_at : (x : ℕ) → e.mark < length saw → x ≡ get_or saw e.mark x → (x == p) ≡ list_any (λ q. p == q) saw
    seen_at x lt is = let there : slice_get saw e.mark ≡ Some x = slice_get_read saw (length saw) e.mark x refl lt is in by_equal x p
        (λ same. eq-eqb x p same ∙ sym (any_passes_from_place (λ q. p == q) saw e.mark x there (eq-eqb p x (sym same))))
        (λ n. ne_eqb x p n ∙ sym (not_true (list_any (λ q. p == q) saw) (λ t. let a : Some x ≡ Some p = sym there ∙ at_mark t in n cc)))

-- an element of a list with one more at its end
last_or : (l : List ℕ) (x i q : ℕ) → slice_get (l ++ x ∷ []) i ≡ Some q → (slice_get l i ≡ Some q) ⊎ ((i ≡ length l) × (q ≡ x))
last_or [] x zero q e = inr (refl, cc)
last_or [] x (suc i) q e = absurd cc
last_or (y ∷ ys) x zero q e = inl e
last_or (y ∷ ys) x (suc i) q e = ⊎_elim inl (λ (r : (i ≡ length ys) × (q ≡ x)). let a = r.0 in inr (omega arith, r.1)) (last_or ys x i q e)

same_test : eq_by_cmp nat_cmp ≡ eqb
same_test i x y = test x y i
  where
    test : (x y : ℕ) → eq_by_cmp nat_cmp x y ≡ eqb x y
    test x y = grind (arith, nat_tests)

module _ (entries : BTreeMap ℕ Entry) (saw : List ℕ) (room p : ℕ) (m : IsMarked entries saw room) where
  -- distinct parties, each with an entry, are at most as many as the entries
  few_marks : (xs : List ℕ) → IsDistinct eqb xs → ((q : ℕ) → list_any (eqb q) xs ≡ true → IsKnown entries q) → length xs ≤ btree_map_len entries
  few_marks xs distinct known = length-le_from_keys nat_eq_equiv xs entries.entries distinct
      (λ q e. subst (λ (eq : ℕ → ℕ → Bool). IsSome (lookup (eq q) entries.entries)) same_test (let k = known q e in subst IsSome (sym k.1) refl))

  pub marks_fit : length saw ≤ btree_map_len entries
  marks_fit = few_marks saw m.distinct (λ q e. let f = found q saw e in let x = m.marked f.0 q f.1 in (x.0, x.1))

  module _ (k : IsKnown entries p) (unseen : list_any (λ q. p == q) saw ≡ false) where
    more : IsDistinct eqb (saw ++ p ∷ [])
    more = IsDistinct-push nat_eq_equiv saw p m.distinct unseen

    pub mark_fits : length saw < room
    mark_fits = let few = few_marks (saw ++ p ∷ []) more (λ q e. let f = found q (saw ++ p ∷ []) e in ⊎_elim (λ (o : slice_get saw f.0 ≡ Some q). let x =
        m.marked f.0 q o in (x.0, x.1)) (λ (o : (f.0 ≡ length saw) × (q ≡ p)). (k.0, ap (get nat_cmp entries) o.1 ∙ k.1)) (last_or saw p f.0 q f.1)) in
        let one = length-append saw (p ∷ []) in let fits = m.room in omega arith

    pub marked_more : (new : BTreeMap ℕ Entry) (mark : ℕ)
        → mark ≡ length saw → IfSome (get nat_cmp entries p) (λ e. Writes entries new p (record e { mark = mark })) → IsMarked new (saw ++ p ∷ []) room
    marked_more new mark is written = let w = written_to (λ e. record e { mark = mark }) k written in record {
      marked = λ i q e. ⊎_elim
          (λ (o : slice_get saw i ≡ Some q). let x = m.marked i q o in
          (x.0, w.others q (λ same. let t = any_passes_from_place (λ z. p == z) saw i q o (eq-eqb p q (sym same)) in cc) ∙ x.1, x.2))
          (λ (o : (i ≡ length saw) × (q ≡ p)). (record k.0 { mark = mark }, ap (get nat_cmp new) o.1 ∙ w.mine, is ∙ sym o.0)) (last_or saw p i q e);
      distinct = more;
      room = let a = w.size in let b = m.room in omega arith;
    }

-- a written job shows in the party's seat, and in no other
module _ (sense : Bool) (saw : List ℕ) (old new : BTreeMap ℕ Entry) (p : ℕ) (j : Option ℕ) (k : IsKnown old p)
    (written : IfSome (get nat_cmp old p) (λ e. Writes old new p (record e { running = j }))) where
  abbrev seat : BTreeMap ℕ Entry → ℕ → Seat
  seat entries q =
      record { status = stands sense (sense_of (get nat_cmp entries q)); running = running_of (get nat_cmp entries q); seen = list_any (λ x. q == x) saw }

  seat_by : (q : ℕ) → seat new q ≡ put (seat old) p (record (seat old p) { running = j }) q
  seat_by q = let w = written_to (λ e. record e { running = j }) k written in by_equal q p
      (λ e. subst (λ (z : ℕ). seat new z ≡ put (seat old) p (record (seat old p) { running = j }) z) (sym e)
      ((λ i. record {
        status = stands sense ((ap sense_of w.mine ∙ sym (ap sense_of k.1)) i);
        running = ap running_of w.mine i;
        seen = list_any (λ x. p == x) saw;
      }) ∙ sym (put_here (seat old) p (record (seat old p) { running = j }))))
      (λ n. (λ i. record { status = stands sense (sense_of (w.others q n i)); running = running_of (w.others q n i); seen = list_any (λ x. q == x) saw })
      ∙ sym (put_else (seat old) p (record (seat old p) { running = j }) q n))

  pub runs_shown : (λ (q : ℕ). seat new q) ≡ put (seat old) p (record (seat old p) { running = j })
  runs_shown i q = seat_by q i
