-- What a round that has ended leaves a party which worked in it.
use Rattle.std.proofs.Common.{◌≡◌, ℕ, ◌+◌, ◌∷◌, Bool, false, ap, ◌∙◌, arith}
use Rattle.atomic_table.specs.Table.{Me}
use Rattle.spindle_rounds.specs.declared.round_table.view.Known.{Known}
use Rattle.spindle_rounds.specs.declared.round_table.view.Standing.{Standing}
use Rattle.spindle_rounds.specs.declared.round_table.view.Standing.TheVariants.{Inside}
use Rattle.spindle_rounds.specs.declared.round_table.view.View.{View}
use Rattle.spindle_rounds.specs.RoundShown.{Showed}
use Rattle.spindle_rounds.specs.RoundSteps.{unknown, round_of}
use Rattle.spindle_rounds.specs.RoundViews.{Onward, shown_of, published_of}
use Rattle.spindle_rounds.specs.Passing.{InNext}
use Rattle.spindle_rounds.specs.Working.{IsIdle, HasPassed, PlayedRoundOf}
use Rattle.spindle_rounds.proofs.BarrierClients.{moved_standing, moved_known, moved_claim, moved_leader, moved_deeds}

-- the round's end, after work in the round
pub passed_after : {S N : Type 0} (v : View N) (u w : Me S (View N)) → Onward v u.0 → IsIdle u.0 → InNext u w → HasPassed v w.0
passed_after v u w on idle next = let st : Standing = Inside (round_of u.0.standing + 1) in let k : Known = unknown u.0.leader false in
    let c = moved_claim st k u w next in let l = moved_leader st k u w next in record {
      leader = l.0 ∙ on.leader;
      threads = l.1 ∙ on.threads;
      standing = moved_standing st k u w next ∙ ap (λ (z : Standing). Inside (round_of z + 1)) on.standing;
      unpublished = ap (λ (z : Known). z.unpublished) (moved_known st k u w next) ∙ on.leader;
      idle = (c.0 ∙ idle.0, (let e = idle.1 in let f = c.1 in let g = c.2 in omega arith));
      published = ap shown_of (moved_deeds st k u w next) ∙ on.published;
    }

-- and after a publish before it
pub played_after : {S N : Type 0} (n : ℕ) (may_stop : Bool) (m v : View N) (u w : Me S (View N)) → (v.standing ≡ m.standing) ×
    (published_of v.trail ≡ Showed (round_of m.standing) n may_stop ∷ published_of m.trail) → Onward v u.0 → IsIdle u.0 → InNext u w
    → PlayedRoundOf n may_stop m w.0
played_after n may_stop m v u w shown on idle next = let h = passed_after v u w on idle next in
    (h.published ∙ shown.1, h.standing ∙ ap (λ (z : Standing). Inside (round_of z + 1)) shown.0)
