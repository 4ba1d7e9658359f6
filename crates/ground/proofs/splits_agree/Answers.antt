-- `ground::splits_agree` meets its contract: the numbers read, and the split of them, are those that the definitions name.
use mathlib.Core.Path.{ap}
use Rattle.gas.specs.Gas.{Parts}
use Rattle.ground.specs.Agree.{splits_agree}
use Rattle.ground.proofs.splits_agree.Goals as goal

pub returns : goal.returns
unfolding splits_agree
returns c =
    let e = c.split_of-s.ensures in
    cc (ap (λ (p : Parts). p.q2) e, ap (λ (p : Parts). p.e) e, ap (λ (p : Parts). p.low) e)
