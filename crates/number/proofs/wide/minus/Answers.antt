-- `number::wide::minus` meets its contract: n is taken from the last part; where that is too small, one is borrowed from the parts
-- before it; where those are 0 too, nothing is left.
use mathlib.Core.Path.{◌∙◌}
use native.Mathlib.Omega.{arith}
use Rattle.number.specs.Whole.{val}
use Rattle.number.proofs.WholeLaws.{minus_last, minus_borrow, minus_all}
use Rattle.number.proofs.wide.minus.Goals as goal

pub returns-then-n-a : goal.returns-then-n-a
unfolding val
returns-then-n-a c = minus_last _ _ _ (omega arith)

pub returns-then-a-gt0 : goal.returns-then-a-gt0
unfolding val
returns-then-a-gt0 c = minus_borrow _ _ _ _ (omega arith) (omega arith) (omega arith)

pub returns-then-a-gt0-2 : goal.returns-then-a-gt0-2
unfolding val
returns-then-a-gt0-2 c = minus_borrow _ _ _ _ (omega arith) (omega arith) (omega arith)

pub returns : goal.returns
unfolding val
returns c = c.from.ensures ∙ minus_all _ _ _ (omega arith) (omega arith)
