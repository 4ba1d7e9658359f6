-- Before each turn the row is that after as many instructions as were passed.
use mathlib.Core.Path.{◌≡◌}
use Rattle.model.specs.Columns.{rows_of}
use Rattle.model.specs.Cycles.{next_row}
use Rattle.part.proofs.row_after.Given as goal

abbrev pub invariant-loop-i : goal.invariant-loop-i
invariant-loop-i l = l.row ≡ next_row (rows_of l.t) l._i
