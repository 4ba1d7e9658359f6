-- `cell::read::u48_at` meets its contract: the first six of eight bytes (`num-add`, `num-lt`).
use Prim.Native.Nat.{◌+◌}
use native.Mathlib.Omega.{arith}
use Rattle.number.proofs.NumLaws.{num-add, num-lt}
use Rattle.cell.proofs.read.u48_at.Goals as goal

pub returns : goal.returns
returns c =
    let a = c.args in
    let behind = num-lt a.t.now (a.p + 6) 2 (λ i h. omega (arith, c.shared_slice_known-1.given i)) (omega arith) in
    omega (arith, num-add a.t.now a.p 6 2, behind)
