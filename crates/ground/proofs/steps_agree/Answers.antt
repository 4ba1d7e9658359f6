-- `ground::steps_agree` meets its contract: the numbers read, and the step of them, are those that the definitions name.
use Prim.Native.Nat.{◌^◌}
use native.Mathlib.Omega.{arith}
use Rattle.ground.proofs.AgreeLaws.{bit_of}
use Rattle.ground.specs.Agree.{steps_agree}
use Rattle.number.proofs.WholeLaws.{push_mod, val-lt}
use Rattle.ground.proofs.steps_agree.Goals as goal

pub returns : goal.returns
unfolding steps_agree
returns c =
    let pushed = push_mod (256 ^ 17) _ _ _ c.push.ensures (val-lt c.push.result (omega arith) (omega arith) (omega arith)) in
    rw
    (c.eq.ensures, c.from.ensures, bit_of, c.is_next.ensures, ← pushed, c.wide_at-a.ensures, c.wide_at-b.ensures, c.u8_at-next.ensures, c.wide_at.ensures, c.u8_at.ensures)
