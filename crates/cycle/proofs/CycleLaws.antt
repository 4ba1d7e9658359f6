-- How long the cycle of a claim is, in bounds and out of bounds.
use mathlib.Core.Bool.{Bool}
use mathlib.Core.Path.{◌≡◌, ap}
use Rattle.model.specs.Constraints.{in_last, out_last}
use Rattle.model.specs.Cycles.{Claim}
use Rattle.model.specs.Tests.{pick}
use Rattle.model.specs.Trace.{in_bounds, last_of}

-- the last CT of a claim's cycle, by whether the claim is in bounds
pub last_of_lem : (c : Claim) (b : Bool) → in_bounds c ≡ b → last_of c ≡ pick b in_last out_last
unfolding last_of
last_of_lem c b e = ap (λ (t : Bool). pick t in_last out_last) e
