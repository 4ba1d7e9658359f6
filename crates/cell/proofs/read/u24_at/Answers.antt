-- `cell::read::u24_at` meets its contract: the first three of four bytes.
use Prim.Native.Nat.{◌+◌}
use native.Mathlib.Omega.{arith}
use Rattle.number.specs.Num.{num}
use Rattle.cell.proofs.read.u24_at.Goals as goal

pub returns : goal.returns
unfolding num
returns c =
    omega (arith, c.shared_slice_known-1.given (c.args.p + 3))
