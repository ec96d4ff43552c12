-- A steal leaves its number to finish and its share to begin, and the slot of the number in the seat's hands.
use Rattle.std.proofs.Common.{◌≡◌, ℕ, sym, ap, subst, arith}
use Rattle.atomic_table.specs.Table.{Me}
use Rattle.spindle_rounds.specs.declared.round.claim.Steal.{Steal}
use Rattle.spindle_rounds.specs.declared.round.claim.Steal.TheVariants as steal
use Rattle.spindle_rounds.specs.declared.round.claiming.Source.TheVariants.{Longest}
use Rattle.spindle_rounds.specs.declared.round_table.view.View.{View}
use Rattle.spindle_rounds.specs.RoundAnswers.{StolenBy}
use Rattle.spindle_rounds.specs.RoundConditions.{MayClaim}
use Rattle.spindle_rounds.specs.RoundSlots.{Discipline}
use Rattle.spindle_rounds.specs.Sources.{AfterTaking, of_steal}
use Rattle.spindle_rounds.proofs.RoundClients.{stolen}
use Rattle.spindle_rounds.proofs.round.claiming.Source.try_claim.Goals as goal

steal_taken : {S N : Type 0} (D : Discipline S N) (m w : Me S (View N)) (t : ℕ) (r : Steal) → MayClaim m.0 → m.0.threads ≡ t → StolenBy D t r m w
    → AfterTaking D Longest (of_steal r) m w
steal_taken D m w t (steal.Job c share) may sized a = let b = stolen D m w may t (steal.Job c share) a in
    (b.0, b.1, b.2, b.3, subst (λ x. D.took c m.1 x w.1) (sym (ap (λ v. v.note) a.5)) a.6)
steal_taken D m w t steal.Nothing may sized a = let b = stolen D m w may t steal.Nothing a in
    (b.0, b.1, b.3, ap (λ z. z.1) a.3, λ i lt. b.4 i (let same = b.0.threads in omega arith))
steal_taken D m w t steal.Again may sized a = let b = stolen D m w may t steal.Again a in (b.0, b.1, b.3, ap (λ z. z.1) a.5)

pub returns-in-Longest-clause-taken : goal.returns-in-Longest-clause-taken
returns-in-Longest-clause-taken g c = rw (c.in-Longest.is, c.of_steal.ensures)
    (steal_taken g.D.SlotContents.discipline _ c.try_steal.new.seat.me _ c.try_steal.result c.requires.free c.requires.sized c.try_steal.ensures.step)
