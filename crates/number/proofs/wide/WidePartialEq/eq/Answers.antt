-- `==` of two values meets its contract: `eqb-val` turns the tests part by part into one of the numbers.
use native.Mathlib.Omega.{arith}
use Rattle.number.proofs.WholeLaws.{eqb-val}
use Rattle.number.proofs.wide.WidePartialEq.eq.Goals as goal

pub returns : goal.returns
returns c = eqb-val _ _ (omega arith) (omega arith) (omega arith) (omega arith)
