-- `long::sum` meets its contract: the sum by halves, the carry of the last into the first.
use native.Mathlib.Omega.{arith}
use Rattle.std.specs.Int.{from_bool}
use Rattle.number.proofs.WholeLaws.{wide_is}
use Rattle.long.proofs.LongLaws.{halves_sum}
use Rattle.long.proofs.sum.Goals as goal

pub returns : goal.returns
returns c =
    let low = c.carrying_add-lo in
    let high = c.carrying_add-hi in
    wide_is _ _ (halves_sum c.args.a c.args.b _ (from_bool low.result.1) (omega (arith, low.ensures)) (omega (arith, high.ensures, c.from.ensures))) (omega arith) (omega arith)
