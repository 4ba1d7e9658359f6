-- `rules::cells::Kept::from` meets its contract: each field is the cell of its name.
use Rattle.std.proofs.Common.{refl}
use Rattle.rules.proofs.cells.KeptFromRow.from.Goals as goal

pub returns : goal.returns
returns c = refl
