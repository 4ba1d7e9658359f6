-- `count::starts_cycle` is `starts`, unfolded, by the cells of the row.
use Rattle.std.proofs.Common.{refl}
use Rattle.model.specs.Constraints.{in_use}
use Rattle.model.specs.Cycles.{starts}
use Rattle.count.proofs.starts_cycle.Goals as goal

pub returns : goal.returns
unfolding starts in_use
returns c = refl
