-- `checker::cycles::empty_rows`: a row of zeros is passed, and any other ends the count.
use mathlib.Core.Path.{◌≡◌, sym, ◌∙◌}
use mathlib.Core.Bool.{Bool}
use native.Mathlib.Omega.{arith}
use Rattle.model.specs.Columns.{Cells, columns, cells_in}
use Rattle.model.specs.Tests.{zeros}
use Rattle.checker.proofs.CycleLaws.{passes_empty, ends_empty, all_empty}
use Rattle.checker.proofs.cycles.empty_rows.Goals as goal

-- what is answered of a row's bytes is so of the row
is_zero : {x y : Cells} {t u : Bool} → x ≡ y → t ≡ zeros (cells_in columns x) → t ≡ u → zeros (cells_in columns y) ≡ u
is_zero e h k = rw (← e) (sym h ∙ k)

pub returns-then-not-is_empty : goal.returns-then-not-is_empty
returns-then-not-is_empty c = ends_empty _ _ _ (omega arith) (is_zero c.row.ensures c.is_empty.ensures c.if-not-is_empty.true) ∙ c.loop-i.invariant

pub loop-i-preserved : goal.loop-i-preserved
loop-i-preserved c = passes_empty _ _ _ (omega arith) (is_zero c.row.ensures c.is_empty.ensures c.if-not-is_empty.false) ∙ c.loop-i.invariant

pub returns : goal.returns
returns c =
    let end : c.args.rows.count ≡ c.loop-i.i = omega arith in
    end ∙ all_empty _ _ _ (omega arith) ∙ c.loop-i.invariant
