-- `width` of two groups: the sum of theirs (`total_append`).
use native.Mathlib.Omega.{arith}
use Rattle.row.proofs.GroupLaws.{total_append}
use Rattle.row.proofs.group.Tuple2Group.width.Goals as goal

pub width-requires : goal.width-requires
width-requires g c = omega (arith, total_append g.A.Group.widths g.B.Group.widths, c.requires)

pub width-requires-2 : goal.width-requires-2
width-requires-2 g c = omega (arith, total_append g.A.Group.widths g.B.Group.widths, c.requires)

pub overflow_add-result : goal.overflow_add-result
overflow_add-result g c =
    omega (arith, total_append g.A.Group.widths g.B.Group.widths, c.requires, c.width.ensures, c.width-2.ensures)

pub returns : goal.returns
returns g c = omega (arith, total_append g.A.Group.widths g.B.Group.widths, c.width.ensures, c.width-2.ensures)
