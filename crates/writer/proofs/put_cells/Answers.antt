-- `writer::put_cells` meets its contract: the bytes of the number are those of the cells (`be-cells`), for which there is room (`joined_below`).
use mathlib.Core.Path.{ap}
use native.Mathlib.Omega.{arith}
use lib.Seq.{sets}
use Rattle.row.proofs.GroupLaws.{joined_below}
use Rattle.writer.proofs.GroupLaws.{be-cells}
use Rattle.writer.proofs.put_cells.Goals as goal

pub put_number-requires-clause-fits : goal.put_number-requires-clause-fits
put_number-requires-clause-fits g c =
    let below = joined_below g.C.Group.widths _ 0 c.behind.ensures.fit in
    rw (c.width.ensures, c.behind.ensures.number) (omega (arith, below))

pub returns : goal.returns
returns g c =
    rw (c.put_number.ensures, c.width.ensures, c.behind.ensures.number)
    (ap (sets c.args.buf.now c.args.at) (be-cells g.C.Group.widths _ c.behind.ensures.fit))
