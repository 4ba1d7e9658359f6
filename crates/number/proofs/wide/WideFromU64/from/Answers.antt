-- `Wide::from` meets its contract: the parts before the last are 0.
use native.Mathlib.Omega.{arith}
use Rattle.number.specs.Whole.{val}
use Rattle.number.proofs.wide.WideFromU64.from.Goals as goal

pub returns : goal.returns
unfolding val
returns c = omega arith
