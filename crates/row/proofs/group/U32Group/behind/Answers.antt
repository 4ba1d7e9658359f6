-- `behind` of a cell of four bytes: one more cell, which fits.
use native.Mathlib.Omega.{arith}
use Rattle.number.specs.Cells.{Fit}
use Rattle.row.specs.Group.{joined}
use Rattle.row.proofs.group.U32Group.behind.Goals as goal

pub returns-clause-number : goal.returns-clause-number
unfolding joined
returns-clause-number c = omega (arith, c.from.ensures)

pub returns-clause-fit : goal.returns-clause-fit
unfolding Fit
returns-clause-fit c = (omega (arith, c), tt)
