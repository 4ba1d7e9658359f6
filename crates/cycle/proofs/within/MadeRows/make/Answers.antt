-- `cycle::within::MadeRows::make` meets its contract: the three parts make the row (`parts_make`), whose cells of three bytes fit them (`within_narrow`).
use Rattle.row.proofs.PlaceLaws.{parts_make}
use Rattle.cycle.proofs.MadeLaws.{within_narrow}
use Rattle.cycle.proofs.within.MadeRows.make.Goals as goal

pub returns-clause-row : goal.returns-clause-row
returns-clause-row c = parts_make _ _ _ _ c.head.ensures c.body.ensures c.tail.ensures

pub returns-clause-narrow : goal.returns-clause-narrow
returns-clause-narrow c = rw (returns-clause-row c) (within_narrow c.args.self.now c.args.i)
