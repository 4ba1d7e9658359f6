-- `cell::read::u8_at` meets its contract: a number of one byte is that byte.
use native.Mathlib.Nat.{add-zero}
use native.Mathlib.Omega.{arith}
use Rattle.number.specs.Num.{num}
use Rattle.cell.proofs.read.u8_at.Goals as goal

pub returns : goal.returns
unfolding num
returns c = simp add-zero (omega arith)
