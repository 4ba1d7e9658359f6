-- `cell::write::put_u8` meets its contract: one store of the byte itself.
use native.Mathlib.Omega.{arith}
use Rattle.number.proofs.NumLaws.{be-one}
use Rattle.cell.proofs.write.put_u8.Goals as goal

pub returns : goal.returns
returns c = rw (be-one c.args.v (omega arith))
