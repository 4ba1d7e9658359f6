-- `number::wide::is_next` meets its contract: 256 times p needs an 18th byte just where p's first is not 0, and then no value of 17
-- bytes equals it (`eqb-below`).
use Prim.Native.Nat.{◌+◌, ◌*◌, ◌^◌}
use native.Mathlib.Omega.{arith}
use Rattle.number.specs.Whole.{val}
use Rattle.number.proofs.WholeLaws.{eqb-below, val-lt}
use Rattle.number.proofs.wide.is_next.Goals as goal

pub returns : goal.returns
returns c =
    let a = c.args in
    let fits = val-lt a.a (omega arith) (omega arith) (omega arith) in
    rw c.eq.ensures
    (eqb-below (256 ^ 17) a.p.top (val c.push.result) (256 * val a.p + a.b) (val a.a) c.push.ensures fits)
