-- The leader takes every slot out, and gives back those that it holds.
use Rattle.std.proofs.Common.{◌≡◌, inl, inr, ⊎_elim, ℕ, zero, suc, ◌+◌, ◌<◌, ◌≤◌, true, false, List, [], ◌∷◌, ◌++◌, length, length-append, get_or, set}
use Rattle.std.proofs.Common.{length-set, sym, refl, ap, ◌∙◌, subst, arith, None}
use mathlib.Core.Option as m
use mathlib.Core.Option.{none, some, some-injective, some-ne-none}
use lib.ListN.{get_elem?}
use lib.Seq.{set-get_or}
use Rattle.atomic_table.specs.Table as table
use Rattle.atomic_table.specs.Table.{Act, stepped, Valid, homes_after, carried_after}
use Rattle.spindle_parts.specs.State.{State}
use Rattle.spindle_parts.specs.Steps.{Event}
use Rattle.spindle_parts.specs.Runs.{state}
use Rattle.spindle_parts.proofs.Soundness.{sound, no_closer}
use Rattle.spindle_parts.specs.declared.trail.Trace.{Trace}
use Rattle.spindle_parts.specs.Trail.{trace}
use Rattle.spindle_rounds.specs.declared.round_table.view.Spot.{Spot}
use Rattle.spindle_rounds.specs.declared.round_table.view.Spot.TheVariants as spot
use Rattle.spindle_rounds.specs.declared.round_table.view.View.{View}
use Rattle.spindle_rounds.specs.declared.round_table.view.Kind.{Kind}
use Rattle.spindle_rounds.specs.declared.round_table.view.Kind.TheVariants as kind
use Rattle.spindle_rounds.specs.declared.round_table.view.Standing.TheVariants.{Inside}
use Rattle.spindle_rounds.specs.RoundSlots.{Discipline, Lawful, AtRest, HasFinished, spot_at}
use Rattle.spindle_rounds.specs.RoundShown.{deed_of, Showed, deeds_of, Stands, Words}
use Rattle.spindle_rounds.specs.RoundSteps.{noted, round_of}
use Rattle.spindle_rounds.specs.SlotSteps.{numbered, board_out, board_back, IsDeed, IsSure, TakeOutTells, taking_out, GiveBackTells, giving_back}
use Rattle.spindle_rounds.specs.RoundConditions.{MayTakeOut, MayPutAll, MayGiveBack}
use Rattle.spindle_rounds.specs.RoundRuns.{PlainLoad}
use Rattle.spindle_rounds.specs.Words.{published_at}
use Rattle.spindle_rounds.specs.SpotPlaces.{spot_else}
use Rattle.spindle_rounds.proofs.Lists.{in_list, first_set, at_end}
use Rattle.spindle_rounds.proofs.PieceClients.{numbered_end}
use Rattle.spindle_rounds.proofs.RoundQuiet.{unchanged}
use Rattle.spindle_rounds.proofs.RoundMoves.{Rule, SeatOf, moves_with, still_laid, shows_by}
use Rattle.spindle_rounds.proofs.PlainRounds.{at_rest, was_shown, plain_finished}

module _ {A : Type 0} where
  first_twice : (l : List A) (u w : A) → set (set l 0 u) 0 w ≡ set l 0 w
  first_twice [] u w = refl
  first_twice (x ∷ xs) u w = refl

module _ {X N : Type 0} (D : Discipline X N) (law : Lawful D) where
  -- the first n slots go out, the last of them first
  takes_down : (S : State) (n : ℕ) (hs : List (m.Option X)) (vs : List (View N)) (v : View N) (c : List (ℕ × X)) → AtRest S → D.clause S hs vs
      → get_elem? vs 0 ≡ some v → n ≤ length hs → ((k : ℕ) → k < n → D.may_take (spot_at v.board k))
      → (w : View N) → w.board ≡ board_out n v.board → w.note ≡ v.note → w.claim ≡ v.claim
      → (a : Act X) × (ys : List X) × Valid hs c a × (length ys ≡ n) × (carried_after c a ≡ numbered 0 ys c) × D.clause S (homes_after hs c a) (set vs 0 w)
      × ((k : ℕ) (y : X) → get_elem? ys k ≡ some y → D.found (spot_at v.board k) y × (HasFinished S k (spot_at v.board k) → D.answered (spot_at v.board k) y))
  takes_down S zero hs vs v c rest held at le may w b nt cl = (
    Act.keeps,
    [],
    tt,
    refl,
    refl,
    law.stays S S hs vs 0 v w held (unchanged S) at (b, nt, cl),
    λ k y e. absurd (some-ne-none y (sym e)),
  )
  takes_down S (suc n) hs vs v c rest held at le may w b nt cl = let u : View N = record v { board = (n, spot.Out) ∷ v.board } in
      let one = law.takes S hs vs v u n held rest at (omega arith) (may n (omega arith)) (refl, refl, refl) in let y : X = one.0 in
      let same = length-set hs n none in let more = takes_down S n (set hs n none) (set vs 0 u) u ((n, y) ∷ c) rest one.2 (first_set vs u v at) (omega arith)
      (λ k lt. subst D.may_take (sym (spot_else v.board n k spot.Out (λ e. omega arith))) (may k (omega arith))) w b nt cl in let ys : List X = more.1 in
      let many = more.3 in let at_n : n ≡ 0 + length ys = omega arith in (
        Act.chain (Act.takes n y) more.0,
        ys ++ y ∷ [],
        (one.1, more.2),
        (let a = length-append ys (y ∷ []) in omega arith),
        ◌∙◌ {b = numbered 0 ys ((n, y) ∷ c)} more.4 (ap (λ (j : ℕ). numbered 0 ys ((j, y) ∷ c)) at_n ∙ numbered_end 0 ys y c),
        subst (D.clause S (homes_after (set hs n none) ((n, y) ∷ c) more.0)) (first_twice vs u w) more.5,
        (λ k z e. ⊎_elim (λ (t : get_elem? ys k ≡ some z). let lt = in_list ys k z t in
            subst (λ (p : Spot N). D.found p z × (HasFinished S k p → D.answered p z)) (spot_else v.board n k spot.Out (λ q. omega arith)) (more.6 k z t))
            (λ (t : (k ≡ length ys) × (y ≡ z)). let kn : n ≡ k = (let a = t.0 in omega arith) in
            subst (λ (j : ℕ × X). D.found (spot_at v.board j.0) j.1 × (HasFinished S j.0 (spot_at v.board j.0)
            → D.answered (spot_at v.board j.0) j.1)) (λ i. (kn i, t.1 i)) (one.3, one.4)) (at_end ys y z k e)),
      )

  -- the slots that are held go back, one after the other
  gives_down : (S : State) (c : List (ℕ × X)) (hs : List (m.Option X)) (vs : List (View N)) (v : View N) → AtRest S → D.clause S hs vs
      → get_elem? vs 0 ≡ some v → MayPutAll D S.round c v.board
      → (w : View N) → w.board ≡ board_back D S.round c v.board → w.note ≡ v.note → w.claim ≡ v.claim
      → (a : Act X) × Valid hs c a × (carried_after c a ≡ []) × D.clause S (homes_after hs c a) (set vs 0 w)
  gives_down S [] hs vs v rest held at may w b nt cl = (Act.keeps, tt, refl, law.stays S S hs vs 0 v w held (unchanged S) at (b, nt, cl))
  gives_down S (x ∷ c) hs vs v rest held at may w b nt cl = let u : View N = record v { board = (x.0, D.spot_of S.round x.1) ∷ v.board } in
      let one = law.puts S hs vs v u x.0 x.1 held rest at may.0 (refl, refl, refl) in
      let more = gives_down S c (set hs x.0 (some x.1)) (set vs 0 u) u rest one (first_set vs u v at) may.1 w b nt cl in
      (Act.chain Act.gives more.0, (tt, more.1), more.2, subst (D.clause S (homes_after (set hs x.0 (some x.1)) c more.0)) (first_twice vs u w) more.3)

  module _ (t : ℕ) where
    -- the table when the leader, having published nothing, reads the published word
    record AtLoad (run : List Event) (s : table.State X (View N)) (id : ℕ) (me : SeatOf D t) (q : ℕ) : Type 0 where
      pub leads : id ≡ 0
      pub hidden : (state run).published ≡ None
      pub open_now : (state run).closer ≡ None
      pub round : (state run).round ≡ q
      pub at_0 : get_elem? s.views 0 ≡ some me.0

    at_load : (run : List Event) (s : table.State X (View N)) → Rule D t run s → (id : ℕ) (me : SeatOf D t) (q : ℕ) → get_elem? s.views id ≡ some me.0
        → me.0.standing ≡ Inside q → me.0.known.unpublished ≡ true → AtLoad run s id me q
    at_load run s r id me q at inside_q alone = let S : State = state run in let shows = (r.seats id me.0 at).0 in
        let st = subst (Stands S id) inside_q shows.stands in let only = (shows.inside q inside_q).unpublished alone in record {
          leads = only.0;
          hidden = only.1;
          open_now = no_closer S (sound run r.is_run) id st.0;
          round = st.1;
          at_0 = subst (λ (a : ℕ). get_elem? s.views a ≡ some me.0) only.0 at;
        }

    -- a load at which the leader's board becomes b
    loaded : (run : List Event) (s : table.State X (View N)) → Rule D t run s → (id : ℕ) (me : SeatOf D t) (q : ℕ) → get_elem? s.views id ≡ some me.0
        → AtLoad run s id me q → (x : Trace Kind) → (deed_of x.kind ≡ []) → (b : List (ℕ × Spot N)) (a : Act X)
        → (let w : View N = noted x (record me.0 { board = b }) in
        D.clause (state run) (homes_after s.homes me.1 a) (set s.views 0 w) → Rule D t run (stepped s published_at (get_or s.words published_at 0) id me.1 w a))
    loaded run s r id me q at l x none_done b a c = let S : State = state run in let shows = (r.seats id me.0 at).0 in
        let w : View N = noted x (record me.0 { board = b }) in moves_with D t run s r published_at (get_or s.words published_at 0) id me w a [] at tt r.is_run
        (subst (Words t S) (sym (set-get_or s.words published_at 0)) r.words)
        (shows_by shows.stands shows.leads shows.claim shows.share shows.inside)
        (ap (λ (d : List _). d ++ deeds_of me.0.trail) none_done ∙ (r.seats id me.0 at).1) refl
        (still_laid D t run s r published_at (get_or s.words published_at 0) id me w [] at (inr refl) refl refl (λ _. refl)
        (inl (omega arith, (λ _. refl), λ _ _. refl)))
        (subst (λ (z : ℕ). D.clause S (homes_after s.homes me.1 a) (set s.views z w)) (sym l.leads) c)

    sure_finished : (run : List Event) (s : table.State X (View N)) → Rule D t run s → (id : ℕ) (me : SeatOf D t) (q : ℕ) → get_elem? s.views id ≡ some me.0
        → AtLoad run s id me q → (k : ℕ) (p : Spot N) → IsSure me.0 k p → HasFinished (state run) k p
    sure_finished run s r id me q at l k (spot.Filled j x) z =
        let plain = was_shown false id run r.is_run j z.0 (subst (IsDeed (Showed j z.0 false)) (r.seats id me.0 at).1 z.2) in
        plain_finished (state run) (sound run r.is_run) l.hidden l.open_now j z.0 k plain z.1
    sure_finished run s r id me q at l k p z = z

    pub takes_out : (slots id : ℕ) (me : SeatOf D t) → MayTakeOut D slots me.0 → PlainLoad D t slots id me published_at (TakeOutTells D)
    takes_out slots id me may = record {
      shows = λ run s r many at _. let q : ℕ = may.0.0.0 in let l = at_load run s r id me q at may.0.0.1 may.0.1 in let S : State = state run in
          let x : ℕ = get_or s.words published_at 0 in let w : View N = taking_out D slots x me.0 in
          let calm = at_rest S (sound run r.is_run) l.hidden l.open_now in
          let d = takes_down S slots s.homes s.views me.0 me.1 calm r.slots l.at_0 (omega arith) may.1 w refl refl refl in (
            w,
            d.0,
            d.2,
            loaded run s r id me q at l (trace published_at kind.TakeOut x x) refl (board_out slots me.0.board) d.0 d.5,
            (d.1, d.3, (λ i. (w, d.4 i)), λ k y e. let f = d.6 k y e in (f.0, λ sure. f.1 (sure_finished run s r id me q at l k (spot_at me.0.board k) sure))),
          );
    }

    pub gives_back : (slots id : ℕ) (me : SeatOf D t) → MayGiveBack D me → PlainLoad D t slots id me published_at (GiveBackTells D)
    gives_back slots id me may = record {
      shows = λ run s r many at _. let q : ℕ = may.0 in let l = at_load run s r id me q at may.1 may.2 in let S : State = state run in
          let x : ℕ = get_or s.words published_at 0 in let w : View N = giving_back D x me.1 me.0 in
          let calm = at_rest S (sound run r.is_run) l.hidden l.open_now in let here : round_of me.0.standing ≡ S.round = ap round_of may.1 ∙ sym l.round in
          let put = subst (λ (z : ℕ). MayPutAll D z me.1 me.0.board) (sym l.round) may.3 in
          let d = gives_down S me.1 s.homes s.views me.0 calm r.slots l.at_0 put w (ap (λ (z : ℕ). board_back D z me.1 me.0.board) here) refl refl in (
            w,
            d.0,
            d.1,
            loaded run s r id me q at l (trace published_at kind.GiveBack x x) refl (board_back D (round_of me.0.standing) me.1 me.0.board) d.0 d.3,
            λ i. (w, d.2 i),
          );
    }
