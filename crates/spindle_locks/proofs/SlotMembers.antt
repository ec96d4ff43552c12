-- A leader with its barrier, and by what it keeps without.
use Rattle.std.proofs.Common.{◌≡◌, ℕ, zero, suc, ◌%◌, Bool, true, List, [], ◌∷◌, Option, Some, None, IsSome, length, replicate, refl, ap, sym, subst, ◌∙◌}
use mathlib.Core.Option.{some}
use Rattle.std.specs.Option.{ForSome}
use lib.ListN.{get_elem?}
use Rattle.atomic_table.specs.declared.shared.Seat.{Seat}
use Rattle.spindle_rounds.specs.declared.barrier.Barrier.{Barrier}
use Rattle.spindle_rounds.specs.declared.barrier.BarrierInit.{BarrierInit}
use Rattle.spindle_rounds.specs.declared.barrier.detached_party.DetachedParty.{DetachedParty}
use Rattle.spindle_rounds.specs.declared.round_table.pieces.SlotState.{SlotState}
use Rattle.spindle_rounds.specs.declared.round_table.pieces.SlotState.TheVariants.{Empty}
use Rattle.spindle_rounds.specs.declared.round_table.view.Standing.{Standing}
use Rattle.spindle_rounds.specs.declared.round_table.view.Standing.TheVariants.{Inside}
use Rattle.spindle_rounds.specs.declared.round_table.view.View.{View}
use Rattle.spindle_rounds.specs.RoundConditions.{HasPart, HasSense, MayFill}
use Rattle.spindle_rounds.specs.RoundSteps.{round_of}
use Rattle.spindle_rounds.specs.Seating.{slots_of}
use Rattle.spindle_rounds.specs.SlotHands.{AllOut}
use Rattle.spindle_rounds.specs.SlotLoops.{HoldsEach, IsEmpty}
use Rattle.spindle_rounds.specs.SlotSteps.{numbered}
use Rattle.spindle_rounds.specs.DetachedParties.{IsSameParty}
use Rattle.spindle_rounds.specs.Working.{IsIdle}
use Rattle.spindle_rounds.specs.declared.threads.tables.Tables.{Tables}
use Rattle.spindle_rounds.specs.Members.{IsAt}
use Rattle.spindle_rounds.specs.SlotMembers.{IsDetachedLeader, HoldsEmpty, empty_slots, view_in}
use Rattle.spindle_locks.specs.SlotRounds.{LeadsIn}

many_same : {X : Type 0} (n : ℕ) (x : X) → length (replicate n x) ≡ n
many_same zero x = refl
many_same (suc n) x = ap suc (many_same n x)

module _ {P A : Type 0} where
  empty_list : (ys : List (SlotState P A)) → ((k : ℕ) (y : SlotState P A) → get_elem? ys k ≡ some y → y ≡ Empty) → ys ≡ replicate (length ys) Empty
  empty_list [] each = refl
  empty_list (y ∷ ys) each = let e = each 0 y refl in let rest = empty_list ys (λ k z at. each (suc k) z at) in λ i. e i ∷ rest i

  in_empty : (n k : ℕ) (y : SlotState P A) → get_elem? (replicate n Empty) k ≡ some y → y ≡ Empty
  in_empty zero k y at = absurd cc
  in_empty (suc n) zero y at = cc
  in_empty (suc n) (suc k) y at = in_empty n k y at

  -- slots that are empty, each of them, are these
  pub empty_hand : (slots : ℕ) (c : List (ℕ × SlotState P A)) → HoldsEach IsEmpty slots c → c ≡ empty_slots slots
  empty_hand slots c h = h.hand ∙ ap (λ (ys : List (SlotState P A)). numbered 0 ys []) (empty_list h.ys h.each ∙ ap (λ (n : ℕ). replicate n Empty) h.many)

  -- and the other way round
  pub holds_empty : (slots : ℕ) (c : List (ℕ × SlotState P A)) → c ≡ empty_slots slots → HoldsEach IsEmpty slots c
  holds_empty slots c e = record { ys = replicate slots Empty; many = many_same slots Empty; hand = e; each = in_empty slots }

-- who stands there without its barrier stands at it as it did
pub stood : {T S N : Type 0} (tables : Tables T S N) (b : Barrier T S N) (s : DetachedParty T S N) → IsSameParty b s → b.init.now ≡ tables.round.init
    → IsDetachedLeader tables s → IsAt tables b × (b.seat.me.0.leader ≡ true) × MayFill b.seat.me.0 × IsIdle b.seat.me.0
stood {T} {S} {N} tables b s is home h = let e : s.seat ≡ b.seat = is.seat in let seated = ap (λ (z : Seat S (View N)). z.table_id) (sym e) ∙ h.0 in
    let sense : HasSense s.seat.me.0.standing s.sense = subst (λ (z : Standing). HasSense z s.sense) (sym h.3) h.6 in
    let part : HasPart s.seat.me.0.standing s.is_member = subst (λ (z : Standing). HasPart z s.is_member) (sym h.3) h.7 in (
      (
        (
          seated ∙ sym (ap (λ (i : BarrierInit T S N). i.table.shared.table_id) home),
          subst (λ (z : Seat S (View N) × ℕ). HasSense z.0.me.0.standing z.1) (λ i. (e i, is.sense i)) sense,
          subst (λ (z : Seat S (View N) × Bool). HasPart z.0.me.0.standing z.1) (λ i. (e i, is.member i)) part,
        ),
        seated,
        ap (λ (z : Seat S (View N)). z.me.0.threads) (sym e) ∙ h.1,
      ),
      ap (λ (z : Seat S (View N)). z.me.0.leader) (sym e) ∙ h.2,
      subst (λ (z : Seat S (View N)). MayFill z.me.0) e ((_, h.3), h.4),
      subst (λ (z : Seat S (View N)). IsIdle z.me.0) e h.5,
    )

-- a seat of such a lock
abbrev Own : (P A : Type 0) → Type 0
Own P A = Seat (SlotState P A) (View P)

module _ {T P A : Type 0} where
  -- at its barrier it leads as it did without
  pub resumed : (tables : Tables T (SlotState P A) P) (b : Barrier T (SlotState P A) P) (s : DetachedParty T (SlotState P A) P) → IsSameParty b s
      → b.init.now ≡ tables.round.init → IsDetachedLeader tables s → HoldsEmpty (slots_of tables.round.init) s → LeadsIn tables b
  resumed tables b s is home h held = let e : s.seat ≡ b.seat = is.seat in let there = stood tables b s is home h in record {
    leads = record {
      at = there.0;
      leads = there.1;
      between = there.2;
      idle = there.3;
      out = subst (λ (z : Own P A). AllOut (slots_of tables.round.init) z.me.0.board) e held.1;
    };
    hand = subst (λ (z : Own P A). HoldsEach IsEmpty (slots_of tables.round.init) z.me.1) e (holds_empty (slots_of tables.round.init) s.seat.me.1 held.0);
  }

  -- and the other way round
  pub parted : (tables : Tables T (SlotState P A) P) (b : Barrier T (SlotState P A) P) (s : DetachedParty T (SlotState P A) P) → IsSameParty b s
      → LeadsIn tables b
      → IsDetachedLeader tables s × HoldsEmpty (slots_of tables.round.init) s
  parted tables b s is l = let h = l.leads in let e : s.seat ≡ b.seat = is.seat in let st : Standing = b.seat.me.0.standing in let q : ℕ = h.between.0.0 in
      let inside : st ≡ Inside q = h.between.0.1 in let here : s.seat.me.0.standing ≡ st = ap (λ (z : Own P A). z.me.0.standing) e in
      let sense : b.sense ≡ q % 2 = subst (λ (z : Standing). HasSense z b.sense) inside h.at.0.1 in
      let part : b.is_member ≡ true = subst (λ (z : Standing). HasPart z b.is_member) inside h.at.0.2 in (
        (
          ap (λ (z : Own P A). z.table_id) e ∙ h.at.1,
          ap (λ (z : Own P A). z.me.0.threads) e ∙ h.at.2,
          ap (λ (z : Own P A). z.me.0.leader) e ∙ h.leads,
          here ∙ (inside ∙ ap (λ (z : Standing). Inside (round_of z)) (sym (here ∙ inside))),
          ap (λ (z : Own P A). z.me.0.known.unpublished) e ∙ h.between.1,
          subst (λ (z : Own P A). IsIdle z.me.0) (sym e) h.idle,
          is.sense ∙ (sense ∙ ap (λ (z : Standing). round_of z % 2) (sym (here ∙ inside))),
          is.member ∙ part,
        ),
        (
          ap (λ (z : Own P A). z.me.1) e ∙ empty_hand (slots_of tables.round.init) b.seat.me.1 l.hand,
          subst (λ (z : Own P A). AllOut (slots_of tables.round.init) z.me.0.board) (sym e) h.out,
        ),
      )

-- a leader that stands between two rounds may begin the next
pub may_begin : {T S N : Type 0} (tables : Tables T S N) (o : Option (DetachedParty T S N)) → IsSome o
    → ForSome o (λ s. IsDetachedLeader tables s) → MayFill (view_in o)
may_begin tables None there h = absurd cc
may_begin tables (Some s) there h = let f = h s refl in ((_, f.3), f.4)
