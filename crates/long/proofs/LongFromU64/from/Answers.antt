-- `Long::from` meets its contract: the first half is 0.
use native.Mathlib.Omega.{arith}
use Rattle.long.specs.Halves.{whole}
use Rattle.long.proofs.LongLaws.{long_is}
use Rattle.long.proofs.LongFromU64.from.Goals as goal

pub returns : goal.returns
unfolding whole
returns c = long_is _ _ (omega arith) (omega arith)
