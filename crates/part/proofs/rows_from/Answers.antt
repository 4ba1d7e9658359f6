-- `part::rows_from` meets its contract: the rows are there, so their bytes are, and these are the part (`part_between`).
use Rattle.part.proofs.StepLaws.{part_between}
use Rattle.part.proofs.rows_from.Goals as goal

pub returns : goal.returns
returns c = part_between _ c.args.first c.args.rows
