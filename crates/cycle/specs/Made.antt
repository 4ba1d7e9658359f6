-- What the code makes the rows of an in-bounds cycle from, as the model has it.
use Rattle.std.specs.Prelude.{ℕ, true, ◌≡◌}
use Rattle.model.specs.State.{Sound}
use Rattle.model.specs.Trace.{in_bounds, top}
use Rattle.state.specs.Plain.{state}
use Rattle.state.specs.declared.State.{State}
use Rattle.claim.specs.Told.{plain_claim}
use Rattle.claim.specs.declared.claim.Claim.{Claim}
use Rattle.growth.specs.Numbers.{EndsOf, GrowthOf}
use Rattle.cycle.specs.declared.within.Made.{Made}

-- what the rows of an in-bounds claim at this stamp and state are made from
pub record MadeOf (k : ℕ) (s : State) (c : Claim) (m : Made) : Type 0 where
  pub stamp : m.cycle.stamp ≡ k
  pub before : m.cycle.before ≡ s
  pub claim : m.cycle.claim ≡ c
  pub ends : EndsOf (plain_claim c) m.ends
  pub growth : GrowthOf (state s) (top (plain_claim c)) m.growth
  pub sound : Sound (state s)
  pub within : in_bounds (plain_claim c) ≡ true
