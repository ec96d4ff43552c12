-- What a turn's look at requests is, by whether the thread looks at all.
use Rattle.std.proofs.Common.{◌≡◌, ◌≤◌, ◌<◌, ℕ, Bool, zero, suc, true, false, refl, subst, inl, inr, ⊎_elim, arith}
use Rattle.spindle_parts.specs.declared.requests.plays.Account.{Account}
use Rattle.spindle_parts.specs.declared.words.TheConstants.{REQUESTS}
use Rattle.spindle_rounds.specs.Signals.{Read}
use Rattle.spindle_rounds.specs.Waits.{LookedAtRequests}

module _ (waited n : ℕ) (looks : Bool) (old new : Account) (read : looks ≡ true → Read REQUESTS n old new) where
  -- with the thread's own patience
  own_look : (own : ℕ) → (own ≤ waited → looks ≡ true) → (looks ≡ false → (n ≡ 0) × (new ≡ old)) → LookedAtRequests own old n new
  own_look zero late unread = inl (read (late (omega arith)))
  own_look (suc p) late unread = by_look looks read unread
    where
      by_look : (b : Bool) → (b ≡ true → Read REQUESTS n old new) → (b ≡ false → (n ≡ 0) × (new ≡ old)) → LookedAtRequests (suc p) old n new
      by_look true read unread = inl (read refl)
      by_look false read unread = let u = unread refl in inr (omega arith, u.0, u.1)

  -- with the patience of its lock
  pub looked : (own patience : ℕ) → own ≡ patience → (own ≤ waited → looks ≡ true) → (looks ≡ false → (n ≡ 0) × (new ≡ old))
      → LookedAtRequests patience old n new
  looked own patience same late unread = subst (λ (z : ℕ). LookedAtRequests z old n new) same (own_look own late unread)

-- one that found some has read them
pub was_read : (patience n : ℕ) (old new : Account) → 0 < n → LookedAtRequests patience old n new → Read REQUESTS n old new
was_read patience n old new some look = ⊎_elim (λ (r : Read REQUESTS n old new). r)
    (λ (u : (0 < patience) × (n ≡ 0) × (new ≡ old)). absurd (omega arith)) look
