-- `compare::cells_are` meets its contract: the cells are one number (`group_same`).
use native.Mathlib.Omega.{arith}
use Rattle.number.specs.Num.{AllBytes}
use Rattle.compare.proofs.JoinLaws.{group_same}
use Rattle.compare.proofs.cells_are.Goals as goal

pub returns : goal.returns
returns g c =
    let bytes : AllBytes c.args.row.now = λ i h. omega (arith, c.fits-row) in
    rw (c.number_at.ensures, c.width.ensures, c.behind.ensures.number)
    (group_same g.C.Group.widths _ c.args.row.now c.args.at bytes (omega arith) c.behind.ensures.fit)
