-- The helper is a member, inside the next round, or out of the barrier.
use Rattle.std.proofs.Common.{◌+◌, false, ap, sym, ◌∙◌}
use Rattle.spindle_rounds.proofs.Leaving.{post_at, next_at, next_leader, next_stands, next_unpublished, out_at, left_leader}
use Rattle.spindle_rounds.specs.RoundSteps.{round_of, unknown}
use Rattle.spindle_rounds.specs.declared.round_table.view.Standing.TheVariants.{Inside}
use Rattle.spindle_rounds.proofs.BarrierClients.{moved_idle}
use Rattle.spindle_rounds.proofs.threads.helper_waits.end_part.Goals as goal

pub end_or_leave-requires-clause-held : goal.end_or_leave-requires-clause-held
end_or_leave-requires-clause-held g c = (post_at c.args.member).0

pub new-requires : goal.new-requires
new-requires g c = let p = c.args.member in let b = p.barrier in let d = c.in-Remain.barrier in let e = c.in-Remain.ensures.status in record {
  at = next_at p.tables.now b d (post_at p) e.0 e.1;
  inside = (_, next_stands b d e.1);
  idle = moved_idle b.seat.me d.seat.me (Inside (round_of b.seat.me.0.standing + 1)) (unknown b.seat.me.0.leader false) e.1 p.idle;
  role = next_unpublished b d e.1 ∙ sym (next_leader b d e.1);
  numbered = p.numbered;
}

pub returns-in-Remain : goal.returns-in-Remain
returns-in-Remain g c = let p = c.args.member in let b = p.barrier in let d = c.in-Remain.barrier in let e = c.in-Remain.ensures.status in
    let n = c.new.ensures in let at = next_at p.tables.now b d (post_at p) e.0 e.1 in record {
      at = (n.tables, n.thread, n.leader ∙ (next_leader b d e.1 ∙ c.requires.helper));
      seat = (ap (λ s. s.table_id) n.seat ∙ (at.1 ∙ sym p.seated), ap (λ s. s.id) n.seat ∙ e.0.1.2);
    }

pub returns-in-Exit : goal.returns-in-Exit
returns-in-Exit g c = let p = c.args.member in let b = p.barrier in let s = c.in-Exit.seat in let e = c.in-Exit.ensures.status in record {
  at = (out_at p.tables.now b s (post_at p) p.idle e.0 e.1, left_leader b s e.1 ∙ c.requires.helper);
  seat = e.0;
}
