-- `gas::split_of` meets its contract: each part is that of the square.
use native.Mathlib.Omega.{arith}
use Rattle.gas.specs.Gas.{split}
use Rattle.gas.proofs.GasLaws.{parts_path}
use Rattle.gas.proofs.split_of.Goals as goal

pub returns : goal.returns
unfolding split
returns c =
    let s = rw c.from.ensures at c.square-s.ensures.0 in
    parts_path _ _ (omega (arith, s)) (omega (arith, s)) (omega (arith, s))
