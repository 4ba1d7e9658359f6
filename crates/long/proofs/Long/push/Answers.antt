-- `Long::push` meets its contract: `digit_more` says what each half gains and loses.
use Prim.Native.Nat.{◌+◌, ◌*◌}
use native.Mathlib.Omega.{arith}
use Rattle.long.specs.Halves.{whole}
use Rattle.long.proofs.LongLaws.{long_is, digit_more}
use Rattle.long.proofs.Long.push.Goals as goal

pub returns : goal.returns
unfolding whole
returns c =
    let a = c.args in
    rw c.from.ensures (long_is _ (whole a.self * 16 + a.d) (digit_more a.self a.d) (omega arith))
