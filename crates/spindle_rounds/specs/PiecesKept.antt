-- Every kind of step keeps what the slots hold of a round's pieces.
use Rattle.std.proofs.Common.{◌≡◌, ◌≢◌, ◌⊎◌, inl, inr, ⊎_elim, ℕ, zero, suc, ◌<◌, List, [], ◌∷◌}
use Rattle.std.proofs.Common.{◌++◌, map, set, length, length-append, length-set, sym, refl, ap, ◌∙◌}
use Rattle.std.proofs.Common.{subst, arith, Option, Some, None}
use mathlib.Core.Logic.{dite}
use mathlib.Core.Option as m
use mathlib.Core.Option.{some, none, some-injective, some-ne-none}
use native.Mathlib.Decide.{ℕ_discrete}
use lib.ListN.{get_elem?}
use Rattle.spindle_parts.specs.State.{State, Round, times, fresh}
use Rattle.atomic_table.specs.Table.{Act, Valid, homes_after, carried_after}
use Rattle.atomic_table.proofs.Lists.{at_set, set_else}
use Rattle.spindle_rounds.specs.declared.round_table.view.View.{View}
use Rattle.spindle_rounds.specs.declared.round_table.view.Spot.{Spot}
use Rattle.spindle_rounds.specs.declared.round_table.view.Spot.TheVariants.{Vacant, Out, Filled}
use Rattle.spindle_rounds.specs.declared.round_table.pieces.SlotState.{SlotState}
use Rattle.spindle_rounds.specs.declared.round_table.pieces.SlotState.TheVariants.{Empty, Waits, Done}
use Rattle.spindle_rounds.specs.RoundSlots.{Lawful, Quiet, Begins, Finishes, Publishes, SameSlots}
use Rattle.spindle_rounds.specs.RoundSlots.{NoSlots, AtRest, HasFinished, Spotted, spot_at}
use Rattle.spindle_rounds.specs.RoundPieces.{IsRunning, Fits, Held, Found, Answered, HasAnswer}
use Rattle.spindle_rounds.specs.RoundPieces.{IsUnrun, spot_with, pieces}
use Rattle.spindle_rounds.specs.PiecesStill.{set_at, at_map, map_length, at_end, still_leads}
use Rattle.spindle_rounds.specs.PiecesStill.{some_still, Noted, carry}
use Rattle.spindle_rounds.specs.SpotPlaces.{spot_here, spot_else}

module _ {P A : Type 0} (answers : P → A → Type 0) where
  -- what a slot holds
  abbrev Slot : Type 0
  Slot = SlotState P A

  -- the fact of one slot depends on two counts and the slot
  moved : (r r' : Round) (k : ℕ) (x : P) (h h' : m.Option (m.Option Slot))
      → times k r'.begun ≡ times k r.begun → times k r'.finished ≡ times k r.finished
      → h' ≡ h → Fits answers r k x h → Fits answers r' k x h'
  moved r r' k x h h' b f same w = record {
    fresh = λ z. same ∙ w.fresh (sym b ∙ z);
    away = λ z. same ∙ w.away (subst (λ (a : ℕ). 0 < a) b z.0, sym f ∙ z.1);
    done = λ lt. let d = w.done (subst (λ (a : ℕ). 0 < a) f lt) in (d.0, same ∙ d.1, d.2);
  }

  opened : (xs : List Slot) (v : View P) → (pieces answers).starts xs → NoSlots v
      → Held answers fresh (map some xs) (v ∷ [])
  opened xs v start none_yet = record {
    board = [];
    leads = omega arith;
    leaders = λ u e. ap (λ (y : View P). y.board) (sym (some-injective v u e)) ∙ none_yet.0;
    vacant = λ k lt e. at_map xs k Empty (start k (let a = map_length xs in omega arith));
    outside = λ k e. absurd cc;
    fits = λ k r x e. absurd cc;
    handed = λ n e. absurd cc;
    notes = λ p u k e cl. absurd (only p u k e cl);
  }
    where
      only : (p : ℕ) (u : View P) (k : ℕ) → get_elem? (v ∷ []) p ≡ some u → u.claim ≡ Some k → ⊥
      only zero u k e cl = let a = ap (λ (y : View P). y.claim) (some-injective v u e) in
          let b = none_yet.2 in cc
      only (suc p) u k e cl = some-ne-none u (sym e)

  split : (s : State) (hs : List (m.Option Slot)) (vs : List (View P)) (v : View P)
      → Held answers s hs vs → NoSlots v → Held answers s hs (vs ++ v ∷ [])
  split s hs vs v c none_yet = record {
    board = c.board;
    leads = let a = length-append vs (v ∷ []) in omega arith;
    leaders = λ u e. ⊎_elim (c.leaders u) (λ (z : (0 ≡ length vs) × (v ≡ u)). let a = c.leads in
        let b = z.0 in absurd (omega arith)) (at_end vs v u 0 e);
    vacant = c.vacant;
    outside = c.outside;
    fits = c.fits;
    handed = c.handed;
    notes = λ p u k e cl. ⊎_elim (λ z. c.notes p u k z cl)
        (λ (z : (p ≡ length vs) × (v ≡ u)). let a = ap (λ (y : View P). y.claim) z.1 in
        let b = none_yet.2 in absurd cc) (at_end vs v u p e);
  }

  quietly : (s s' : State) (hs : List (m.Option Slot)) (vs : List (View P)) (id : ℕ) (v w : View P)
      → Held answers s hs vs → Quiet s s'
      → get_elem? vs id ≡ some v → SameSlots v w → Held answers s' hs (set vs id w)
  quietly s s' hs vs id v w c q at same = record {
    board = c.board;
    leads = some_still vs id w c.leads;
    leaders = still_leads vs id v w c.board at same.0 c.leaders;
    vacant = c.vacant;
    outside = c.outside;
    fits = λ k r x e. moved (s.rounds r) (s'.rounds r) k x (get_elem? hs k) (get_elem? hs k)
        (q.begun r k) (q.finished r k) refl (c.fits k r x e);
    handed = λ n e k lt. let a = q.published n e in let h = c.handed n a.0 k lt in
        (h.0, subst (λ (z : ℕ). spot_at c.board k ≡ Filled z h.0) (sym a.1) h.1);
    notes = λ p u k e cl. ⊎_elim (λ (z : (p ≡ id) × (w ≡ u)). let n = c.notes id v k at
        (sym same.2 ∙ (ap (λ (y : View P). y.claim) z.1
        ∙ cl)) in carry s s' c.board k v u (q.running k n.3.0 n.3.1) (q.begun s.round k)
        (q.finished s.round k) (sym (ap (λ (y : View P). y.note) z.1)
        ∙ same.1) n)
        (λ (z : (p ≢ id) × (get_elem? vs p ≡ some u)). let n = c.notes p u k z.1 cl in
        carry s s' c.board k u u (q.running k n.3.0 n.3.1) (q.begun s.round k)
        (q.finished s.round k) refl n) (at_set vs id p w u e);
  }

  begun : (s s' : State) (hs : List (m.Option Slot)) (vs : List (View P)) (id : ℕ) (v : View P)
      (c : List (ℕ × Slot)) (k : ℕ) (w : Option P → View P)
      → Held answers s hs vs → Begins s s' k → get_elem? vs id ≡ some v
      → ((x : Option P) → ((w x).board ≡ v.board) × ((w x).note ≡ x) × ((w x).claim ≡ Some k))
      → (x : Option P) × (a : Act Slot) × Valid hs c a × Held answers s' (homes_after hs c a)
      (set vs id (w x))
      × (pieces answers).took k c x (carried_after c a)
  begun s s' hs vs id v c k w held b at is = let hd = held.handed b.shown.0 b.shown.1 k b.shown.2 in
      let x : P = hd.0 in
      let here = (held.fits k s.round x hd.1).fresh b.before in let y : View P = w (Some x) in
      let is_y = is (Some x) in
      let other_spot : (j : ℕ) (p : Spot P) → (p ≢ Filled s.round x) → spot_at held.board j ≡ p
      → j ≢ k = (λ j p n e q. n (sym e ∙ (ap (λ (a : ℕ). spot_at held.board a) q ∙ hd.1))) in
      let gone : get_elem? (set hs k none) k ≡ some none =
      set_at hs k none (some (Waits x)) here in (
        Some x,
        Act.takes k (Waits x),
        here,
        record {
          board = held.board;
          leads = some_still vs id y held.leads;
          leaders = still_leads vs id v y held.board at is_y.0 held.leaders;
          vacant = λ j lt e. set_else hs k j none (other_spot j Vacant (λ n. cc) e)
              ∙ held.vacant j (let l = length-set hs k none in omega arith) e;
          outside = λ j e. set_else hs k j none (other_spot j Out (λ n. cc) e) ∙ held.outside j e;
          fits = λ j r z e. dite (ℕ_discrete j k)
              (λ (same : j ≡ k). let both : Filled r z ≡ Filled s.round x = sym e
              ∙ (ap (λ (a : ℕ). spot_at held.board a) same ∙ hd.1) in
              let rr : r ≡ s.round = cc in
              subst (λ (a : ℕ × ℕ). Fits answers (s'.rounds a.1) a.0 z
              (get_elem? (set hs k none) a.0)) (λ i. (
                sym same i,
                sym rr i,
              )) record {
                fresh = λ o. let p = b.after in absurd (omega arith);
                away = λ _. gone;
                done = λ p. let q = b.finished s.round k in let u = b.unfinished in
                    absurd (omega arith);
              })
              (λ other. moved (s.rounds r) (s'.rounds r) j z (get_elem? hs j)
              (get_elem? (set hs k none) j) (b.begun r j (inr other)) (b.finished r j)
              (set_else hs k j none other) (held.fits j r z e));
          handed = λ n e j lt. let h = held.handed n (sym b.published ∙ e) j lt in (
            h.0,
            subst (λ (z : ℕ). spot_at held.board j ≡ Filled z h.0) (sym b.round) h.1,
          );
          notes = λ p u j e cl. ⊎_elim (λ (z : (p ≡ id) × (y ≡ u)). let one : Some k ≡ Some j =
              sym is_y.2 ∙ (ap (λ (a : View P). a.claim) z.1 ∙ cl) in
              let jk : k ≡ j = cc in let here = subst (λ (a : ℕ). spot_at held.board k ≡ Filled a x)
              (sym b.round) hd.1 in
              let runs = subst (λ (a : ℕ). IsRunning (s'.rounds a) k) (sym b.round)
              (b.after, b.finished s.round k ∙ b.unfinished) in
              subst (λ (a : ℕ × View P). Noted s' held.board a.0 a.1) (λ i. (jk i, z.1 i))
              (x, is_y.1, here, runs))
              (λ (z : (p ≢ id) × (get_elem? vs p ≡ some u)). let n = held.notes p u j z.1 cl in
              let jk : j ≢ k = (λ q. let a = b.before in
              let d = subst (λ (t : ℕ). 0 < times t (s.rounds s.round).begun) q n.3.0 in
              omega arith) in carry s s' held.board j u u b.round
              (b.begun s.round j (inr jk)) (b.finished s.round j) refl n) (at_set vs id p y u e);
        },
        (x, refl, refl),
      )

  done_with : (s s' : State) (hs : List (m.Option Slot)) (vs : List (View P)) (id : ℕ)
      (v w : View P) (c : List (ℕ × Slot)) (k : ℕ) → Held answers s hs vs
      → Finishes s s' k → get_elem? vs id ≡ some v → v.claim ≡ Some k
      → ((p : ℕ) (u : View P) → p ≢ id → get_elem? vs p ≡ some u → u.claim ≢ Some k)
      → (w.board ≡ v.board) × (w.claim ≡ None) → HasAnswer answers k v.note c → Valid hs c Act.gives
      × Held answers s' (homes_after hs c Act.gives) (set vs id w)
  done_with s s' hs vs id v w c k held f at mine alone same may = let n =
      held.notes id v k at mine in let x : P = may.0 in let o : A = may.1 in
      let note_is : Some x ≡ Some n.0 = sym may.2 ∙ n.1 in let xx : n.0 ≡ x = cc in
      let onboard : spot_at held.board k ≡ Filled s.round x =
      subst (λ (a : P). spot_at held.board k ≡ Filled s.round a) xx n.2 in
      let other_spot : (j : ℕ) (p : Spot P) → (p ≢ Filled s.round x) → spot_at held.board j ≡ p
      → j ≢ k = (λ j p n e q. n (sym e ∙ (ap (λ (a : ℕ). spot_at held.board a) q ∙ onboard))) in
      let y : Slot = Done o in let was = (held.fits k s.round x onboard).away (n.3.0, n.3.1) in
      let back : get_elem? (set hs k (some y)) k ≡ some (some y) =
      set_at hs k (some y) none was in (
        tt,
        subst (λ (l : List (ℕ × Slot)). Held answers s' (homes_after hs l Act.gives) (set vs id w))
            (sym may.3) record {
              board = held.board;
              leads = some_still vs id w held.leads;
              leaders = still_leads vs id v w held.board at same.0 held.leaders;
              vacant = λ j lt e. set_else hs k j (some y) (other_spot j Vacant (λ n. cc) e)
                  ∙ held.vacant j (let l = length-set hs k (some y) in omega arith) e;
              outside = λ j e. set_else hs k j (some y) (other_spot j Out (λ n. cc) e)
                  ∙ held.outside j e;
              fits = λ j r z e. dite (ℕ_discrete j k)
                  (λ (jk : j ≡ k). let both : Filled r z ≡ Filled s.round x = sym e
                  ∙ (ap (λ (a : ℕ). spot_at held.board a) jk ∙ onboard) in
                  let rr : r ≡ s.round = cc in let zz : z ≡ x = cc in subst (λ (a : ℕ × ℕ
                  × P). Fits answers (s'.rounds a.1) a.0 a.2 (get_elem? (set hs k (some y)) a.0))
                  (λ i. (sym jk i, sym rr i, sym zz i)) record {
                    fresh = λ q. let a = f.begun s.round k in let d = n.3.0 in absurd (omega arith);
                    away = λ z. let a = f.after in let q = z.1 in absurd (omega arith);
                    done = λ _. (o, back, may.4);
                  })
                  (λ other. moved (s.rounds r) (s'.rounds r) j z (get_elem? hs j)
                  (get_elem? (set hs k (some y)) j) (f.begun r j) (f.finished r j (inr other))
                  (set_else hs k j (some y) other) (held.fits j r z e));
              handed = λ n e j lt. let h = held.handed n (sym f.published ∙ e) j lt in (
                h.0,
                subst
                    (λ (z : ℕ). spot_at held.board j ≡ Filled z h.0) (sym f.round) h.1,
              );
              notes = λ p u j e cl. ⊎_elim (λ (z : (p ≡ id) × (w ≡ u)). let bad : None ≡ Some j =
                  sym same.1 ∙ (ap (λ (a : View P). a.claim) z.1 ∙ cl) in absurd cc)
                  (λ (z : (p ≢ id) × (get_elem? vs p ≡ some u)). let n = held.notes p u j z.1 cl in
                  let jk : j ≢ k = (λ q. alone p u z.0 z.1 (cl ∙ ap (λ (a : ℕ). Some a) q)) in
                  carry s s' held.board j u u f.round (f.begun s.round j)
                  (f.finished s.round j (inr jk)) refl n) (at_set vs id p w u e);
            },
      )

  handed : (s s' : State) (hs : List (m.Option Slot)) (vs : List (View P)) (id : ℕ) (v w : View P)
      (n : ℕ) → Held answers s hs vs → Publishes s s' n
      → get_elem? vs 0 ≡ some v → id ≡ 0 → SameSlots v w
      → (pieces answers).may_publish s.round n v.board → Held answers s' hs (set vs id w)
  handed s s' hs vs id v w n c p at lead same may = let mine : get_elem? vs id ≡ some v =
      ap (get_elem? vs) lead ∙ at in record {
        board = c.board;
        leads = some_still vs id w c.leads;
        leaders = still_leads vs id v w c.board mine same.0 c.leaders;
        vacant = c.vacant;
        outside = c.outside;
        fits = λ k r x e. moved (s.rounds r) (s'.rounds r) k x (get_elem? hs k) (get_elem? hs k)
            (p.begun r k) (p.finished r k) refl (c.fits k r x e);
        handed = λ j e k lt. let nj : n ≡ j = (let a = p.published in cc) in
            let h = may k (omega arith) in (
              h.0,
              subst (λ (b : List (ℕ × Spot P)). spot_at b k ≡ Filled s'.round h.0) (c.leaders v at)
                  (subst
                  (λ (z : ℕ). spot_at v.board k ≡ Filled z h.0) (sym p.round) h.1),
            );
        notes = λ q u k e cl. ⊎_elim (λ (z : (q ≡ id) × (w ≡ u)). let n = c.notes id v k mine
            (sym same.2 ∙ (ap (λ (y : View P). y.claim) z.1
            ∙ cl)) in carry s s' c.board k v u p.round (p.begun s.round k) (p.finished s.round k)
            (sym (ap (λ (y : View P). y.note) z.1) ∙ same.1) n)
            (λ (z : (q ≢ id) × (get_elem? vs q ≡ some u)). let n = c.notes q u k z.1 cl in
            carry s s' c.board k u u p.round (p.begun s.round k)
            (p.finished s.round k) refl n) (at_set vs id q w u e);
      }

  -- what stands in a slot that the leader may take
  found_in : (s : State) (hs : List (m.Option Slot)) (vs : List (View P)) (k : ℕ)
      (held : Held answers s hs vs) → AtRest s → k < length hs → (p : Spot P)
      → spot_at held.board k ≡ p → p ≢ Out → (y : Slot) × (get_elem? hs k ≡ some (some y))
      × Found answers p y × (HasFinished s k p → Answered answers p y)
  found_in s hs vs k held calm lt Vacant e n = (Empty, held.vacant k lt e, refl, λ z. absurd z)
  found_in s hs vs k held calm lt Out e n = absurd (n refl)
  found_in s hs vs k held calm lt (Filled r x) e n = let f = held.fits k r x e in
      dite (ℕ_discrete (times k (s.rounds r).begun) 0)
      (λ z. (Waits x, f.fresh z, inl refl, λ over. let a = calm.over r k in absurd (omega arith)))
      (λ z. let d = f.done (let a = calm.over r k in omega arith) in
      (Done d.0, d.1, inr (d.0, refl, d.2), λ _. (d.0, refl, d.2)))

  no_notes : (s : State) (hs : List (m.Option Slot)) (vs : List (View P)) (v w : View P)
      → Held answers s hs vs → AtRest s → get_elem? vs 0 ≡ some v
      → w.claim ≡ v.claim → (p : ℕ) (u : View P) (j : ℕ) → get_elem? (set vs 0 w) p ≡ some u
      → u.claim ≡ Some j → ⊥
  no_notes s hs vs v w held calm at cl p u j e c = ⊎_elim (λ (z : (p ≡ 0) × (w ≡ u)). let n =
      held.notes 0 v j at (sym cl ∙ (ap (λ (a : View P). a.claim) z.1
      ∙ c)) in let a = calm.over s.round j in let b = n.3.0 in let d = n.3.1 in omega arith)
      (λ (z : (p ≢ 0) × (get_elem? vs p ≡ some u)). let n = held.notes p u j z.1 c in
      let a = calm.over s.round j in let b = n.3.0 in
      let d = n.3.1 in omega arith) (at_set vs 0 p w u e)

  new_board : (vs : List (View P)) (v w : View P) (board : List (ℕ × Spot P)) (k : ℕ) (p : Spot P)
      → get_elem? vs 0 ≡ some v → ((u : View P)
      → get_elem? vs 0 ≡ some u → u.board ≡ board) → w.board ≡ (k, p) ∷ v.board → (u : View P)
      → get_elem? (set vs 0 w) 0 ≡ some u → u.board ≡ (k, p) ∷ board
  new_board vs v w board k p at all is u e =
      ⊎_elim (λ (z : (0 ≡ 0) × (w ≡ u)). sym (ap (λ (a : View P). a.board) z.1)
      ∙ (is ∙ ap (λ (b : List (ℕ
      × Spot P)). let c : List (ℕ × Spot P) = (k, p) ∷ b in c) (all v at))) (λ (z : (0 ≢ 0)
      × (get_elem? vs 0 ≡ some u)). absurd (z.0 refl)) (at_set vs 0 0 w u e)

  gone_out : (s : State) (hs : List (m.Option Slot)) (vs : List (View P)) (v w : View P) (k : ℕ)
      (held : Held answers s hs vs) → AtRest s
      → get_elem? vs 0 ≡ some v → Spotted k Out v w → (y : Slot) → get_elem? hs k ≡ some (some y)
      → Held answers s (set hs k none) (set vs 0 w)
  gone_out s hs vs v w k held calm at is y here = record {
    board = (k, Out) ∷ held.board;
    leads = some_still vs 0 w held.leads;
    leaders = new_board vs v w held.board k Out at held.leaders is.0;
    vacant = λ j lt e. dite (ℕ_discrete j k)
        (λ q. absurd (let z = ap (spot_at ((k, Out) ∷ held.board)) q in
        let a = spot_here held.board k Out in
        let d : Vacant ≡ Out = sym e ∙ (z ∙ a) in cc))
        (λ n. set_else hs k j none n ∙ held.vacant j (let l = length-set hs k none in omega arith)
        (sym (spot_else held.board k j Out n) ∙ e));
    outside = λ j e. dite (ℕ_discrete j k)
        (λ q. subst (λ (a : ℕ). get_elem? (set hs k none) a ≡ some none) (sym q)
        (set_at hs k none (some y) here))
        (λ n. set_else hs k j none n ∙ held.outside j (sym (spot_else held.board k j Out n) ∙ e));
    fits = λ j r x e. dite (ℕ_discrete j k)
        (λ q. absurd (let z = ap (spot_at ((k, Out) ∷ held.board)) q in
        let a = spot_here held.board k Out in
        let d : Filled r x ≡ Out = sym e ∙ (z ∙ a) in cc))
        (λ n. moved (s.rounds r) (s.rounds r) j x (get_elem? hs j)
        (get_elem? (set hs k none) j) refl refl (set_else hs k j none n) (held.fits j r x (sym
        (spot_else held.board k j Out n) ∙ e)));
    handed = λ n e. let a = calm.hidden in absurd cc;
    notes = λ p u j e c. absurd (no_notes s hs vs v w held calm at is.2 p u j e c);
  }

  taken : (s : State) (hs : List (m.Option Slot)) (vs : List (View P)) (v w : View P) (k : ℕ)
      → Held answers s hs vs → AtRest s → get_elem? vs 0 ≡ some v
      → k < length hs → (spot_at v.board k ≢ Out) → Spotted k Out v w
      → (y : Slot) × (get_elem? hs k ≡ some (some y)) × Held answers s (set hs k none) (set vs 0 w)
      × Found answers (spot_at v.board k) y
      × (HasFinished s k (spot_at v.board k) → Answered answers (spot_at v.board k) y)
  taken s hs vs v w k held calm at lt may is = let same =
      ap (λ (b : List (ℕ × Spot P)). spot_at b k) (held.leaders v at) in
      let f = found_in s hs vs k held calm lt (spot_at v.board k) (sym same) may in
      (f.0, f.1, gone_out s hs vs v w k held calm at is f.0 f.1, f.2, f.3)

  -- what may be put, and what the board then has
  cases : (q : ℕ) (y : Slot) → IsUnrun answers y → ((spot_with answers q y ≡ Vacant) × (y ≡ Empty))
      ⊎ ((x : P) × (spot_with answers q y ≡ Filled q x)
      × (y ≡ Waits x))
  cases q Empty u = inl (refl, refl)
  cases q (Waits x) u = inr (x, refl, refl)
  cases q (Done o) u = absurd u

  come_back : (s : State) (hs : List (m.Option Slot)) (vs : List (View P)) (v w : View P) (k : ℕ)
      (y : Slot) (p : Spot P) → Held answers s hs vs → AtRest s
      → get_elem? vs 0 ≡ some v → spot_at v.board k ≡ Out → Spotted k p v w
      → ((p ≡ Vacant) × (y ≡ Empty)) ⊎ ((x : P) × (p ≡ Filled s.round x) × (y ≡ Waits x))
      → Held answers s (set hs k (some y)) (set vs 0 w)
  come_back s hs vs v w k y p held calm at out is either = let gone = held.outside k
      (sym (ap (λ (b : List (ℕ
      × Spot P)). spot_at b k) (held.leaders v at)) ∙ out) in
      let here : get_elem? (set hs k (some y)) k ≡ some (some y) = set_at hs k (some y) none gone in
      let at_k : (j : ℕ) → j ≡ k → spot_at ((k, p) ∷ held.board) j ≡ p =
      (λ j q. ap (spot_at ((k, p) ∷ held.board)) q ∙ spot_here held.board k p) in record {
        board = (k, p) ∷ held.board;
        leads = some_still vs 0 w held.leads;
        leaders = new_board vs v w held.board k p at held.leaders is.0;
        vacant = λ j lt e. dite (ℕ_discrete j k)
            (λ q. subst (λ (a : ℕ). get_elem? (set hs k (some y)) a ≡ some (some Empty)) (sym q)
            (here
            ∙ ap (λ (a : Slot). some (some a)) (⊎_elim (λ (z : (p ≡ Vacant) × (y ≡ Empty)). z.1)
            (λ (z : (x : P) × (p ≡ Filled s.round x)
            × (y ≡ Waits x)). absurd (let d : Vacant ≡ Filled s.round z.0 = sym e
            ∙ (at_k j q ∙ z.1) in cc)) either)))
            (λ n. set_else hs k j (some y) n ∙ held.vacant j (let l = length-set hs k (some y) in
            omega arith) (sym (spot_else held.board k j p n) ∙ e));
        outside = λ j e. dite (ℕ_discrete j k)
            (λ q. absurd (let f = sym e ∙ at_k j q in ⊎_elim (λ (z : (p ≡ Vacant)
            × (y ≡ Empty)). let d : Out ≡ Vacant = f ∙ z.0 in cc)
            (λ (z : (x : P) × (p ≡ Filled s.round x)
            × (y ≡ Waits x)). let d : Out ≡ Filled s.round z.0 = f ∙ z.1 in cc) either))
            (λ n. set_else hs k j (some y) n ∙ held.outside j (sym (spot_else held.board k j p n)
            ∙ e));
        fits = λ j r x e. dite (ℕ_discrete j k)
            (λ q. let f : Filled r x ≡ p = sym e ∙ at_k j q in ⊎_elim (λ (z : (p ≡ Vacant)
            × (y ≡ Empty)). absurd (let d : Filled r x ≡ Vacant = f ∙ z.0 in cc))
            (λ (z : (a : P) × (p ≡ Filled s.round a) × (y ≡ Waits a)). let d : Filled r x
            ≡ Filled s.round z.0 = f ∙ z.1 in let rr : r ≡ s.round = cc in
            let xx : x ≡ z.0 = cc in
            subst (λ (a : ℕ × ℕ × P). Fits answers (s.rounds a.1) a.0 a.2
            (get_elem? (set hs k (some y)) a.0)) (λ i. (
              sym q i,
              sym rr i,
              sym xx i,
            )) record {
              fresh = λ _. here ∙ ap (λ (a : Slot). some (some a)) z.2;
              away = λ z. let lt = z.0 in let a = calm.unbegun k in absurd (omega arith);
              done = λ lt. let a = calm.unbegun k in let b = calm.over s.round k in
                  absurd (omega arith);
            }) either)
            (λ n. moved (s.rounds r) (s.rounds r) j x (get_elem? hs j)
            (get_elem? (set hs k (some y)) j) refl refl (set_else hs k j (some y) n)
            (held.fits j r x (sym (spot_else held.board k j p n) ∙ e)));
        handed = λ n e. let a = calm.hidden in absurd cc;
        notes = λ q u j e c. absurd (no_notes s hs vs v w held calm at is.2 q u j e c);
      }

  -- every step of a table with pieces in its slots keeps what holds of them
  pub pieces_lawful : Lawful (pieces answers)
  pieces_lawful = record {
    opens = opened;
    splits = split;
    stays = quietly;
    begins = begun;
    finishes = done_with;
    publishes = handed;
    takes = taken;
    puts = λ s hs vs v w k y c calm at may is. come_back s hs vs v w k y
        (spot_with answers s.round y) c calm at may.0 is (cases s.round y may.1);
  }
