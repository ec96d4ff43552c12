-- A party at a barrier, and what it keeps without it.
use Rattle.std.specs.Prelude.{◌≡◌}
use Rattle.spindle_rounds.specs.declared.barrier.Barrier.{Barrier}
use Rattle.spindle_rounds.specs.declared.barrier.detached_party.DetachedParty.{DetachedParty}

-- it is the same party, at its barrier and without it
pub record IsSameParty {T S N : Type 0} (b : Barrier T S N) (s : DetachedParty T S N) : Type 0 where
  pub seat : s.seat ≡ b.seat
  pub sense : s.sense ≡ b.sense
  pub member : s.is_member ≡ b.is_member
  pub thread : s.thread_id ≡ b.thread_id
