-- `cycle::is_within` meets its contract: the two tests are the model's.
use mathlib.Core.Path.{refl}
use Rattle.model.specs.Trace.{in_bounds}
use Rattle.cycle.proofs.is_within.Goals as goal

pub returns : goal.returns
unfolding in_bounds
returns c = rw (c.in_bounds.ensures, c.in_bounds-2.ensures) refl
