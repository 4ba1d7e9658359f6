-- `beyond::rows::rows_are` meets its contract: a row is compared in its two parts (`row_same`); one that is the same stands too (`one_more`), and one that is
-- another ends it (`one_other`).
use Rattle.std.proofs.Common.{refl, ◌∙◌, sym, arith}
use Rattle.model.specs.Columns.{row_at}
use Rattle.compare.proofs.SameLaws.{row_same, none_stand, one_more, one_other}
use Rattle.beyond.proofs.rows.rows_are.Goals as goal

pub loop-i-init : goal.loop-i-init
loop-i-init g c = record { at = c.requires.first; same_cycle = refl; stand = none_stand _ _ _ }

pub returns-then-not-up_to_gas_is-from_comp_is : goal.returns-then-not-up_to_gas_is-from_comp_is
returns-then-not-up_to_gas_is-from_comp_is g c =
    let a = c.args in
    let row = rw c.loop-i.invariant.same_cycle at c.make-own.ensures.row in
    let other =
    rw (c.up_to_gas_is.ensures, c.from_comp_is.ensures, row_same, c.of_row-shown.ensures, row)
    at c.if-not-up_to_gas_is-from_comp_is.true in
    sym (one_other (row_at a.t.now) a.row (g.R.Rows.cells a.rows) a.n c.loop-i.i (omega arith) other)

pub loop-i-preserved : goal.loop-i-preserved
loop-i-preserved g c =
    let l = c.loop-i in
    let same_cycle = l.invariant.same_cycle in
    let row = rw same_cycle at c.make-own.ensures.row in
    let same =
    rw (c.up_to_gas_is.ensures, c.from_comp_is.ensures, row_same, c.of_row-shown.ensures, row)
    at c.if-not-up_to_gas_is-from_comp_is.false in
    record {
      at = c.make-own.ensures.next;
      same_cycle = c.make-own.ensures.same_cycle ∙ same_cycle;
      stand = one_more _ _ _ l.i l.invariant.stand same;
    }
