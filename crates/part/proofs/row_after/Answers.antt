-- `part::row_after` meets its contract. Before each turn the row is that after as many instructions as were passed, and one more of them is
-- passed by the rows of its cycle (`next_after`).
use Prim.Native.Nat.{suc, ◌+◌}
use mathlib.Core.Path.{◌≡◌, sym}
use native.Mathlib.Numerals.{add-one}
use native.Mathlib.Omega.{arith}
use Rattle.model.specs.Columns.{rows_of}
use Rattle.model.specs.Cycles.{next_row}
use Rattle.model.proofs.InstructionLaws.{next_after, next_inside, next_there}
use Rattle.part.proofs.row_after.Goals as goal

-- the rows that are passed in a turn end where the next instruction starts
passes : (c : goal.After-cycle_rows-row)
    → next_row (rows_of c.args.t.now) (suc c.loop-i._i) ≡ c.loop-i.row + c.cycle_rows-row.result
passes c =
    let l = c.args.t.now in
    let row : c.loop-i.row ≡ next_row (rows_of l) c.loop-i._i = c.loop-i.invariant in
    rw (← row, ← c.of_row.ensures, ← c.cycle_rows-row.ensures) at (next_after l c.requires.accepted c.loop-i._i (omega arith))

pub loop-i-init : goal.loop-i-init
unfolding next_row
loop-i-init c = c.requires.empty_value

pub of_row-requires : goal.of_row-requires
of_row-requires c =
    rw c.loop-i.invariant (next_there c.args.t.now c.requires.accepted c.loop-i._i (omega arith))

pub overflow_add-row : goal.overflow_add-row
overflow_add-row c =
    omega (arith, passes c, next_inside c.args.t.now c.requires.accepted (suc c.loop-i._i) (omega arith))

pub loop-i-preserved : goal.loop-i-preserved
loop-i-preserved c = rw (add-one c.loop-i._i) (sym (passes c))
