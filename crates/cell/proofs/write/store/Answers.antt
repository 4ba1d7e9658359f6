-- `write::store` meets its contract: what is copied stands in the place of as many bytes (`copied`).
use native.Mathlib.Omega.{arith}
use Rattle.number.proofs.StoreLaws.{copied}
use Rattle.cell.proofs.write.store.Goals as goal

pub returns : goal.returns
returns c = copied _ _ _ _ _ c.copy_from_slice.ensures.after (omega arith) (omega (arith, c.requires))
