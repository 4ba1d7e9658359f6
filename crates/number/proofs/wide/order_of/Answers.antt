-- `number::wide::order_of` meets its contract: `cmp-val` turns the order part by part into that of the numbers.
use mathlib.Core.Path.{◌∙◌}
use native.Mathlib.Omega.{arith}
use Rattle.number.proofs.WholeLaws.{cmp-val}
use Rattle.number.proofs.wide.order_of.Goals as goal

pub returns : goal.returns
returns c = c.cmp.ensures ∙ cmp-val _ _ (omega arith) (omega arith) (omega arith) (omega arith)
