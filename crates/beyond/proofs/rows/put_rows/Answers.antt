-- `beyond::rows::put_rows` meets its contract: at first no row is written, and one turn writes one more (`rows_next`).
use Rattle.std.proofs.Common.{refl, ◌∙◌, add-one}
use Rattle.model.specs.Columns.{table, bytes_of}
use Rattle.beyond.proofs.TableLaws.{rows_next}
use Rattle.beyond.proofs.rows.put_rows.Goals as goal

pub loop-i-init : goal.loop-i-init
unfolding table bytes_of
loop-i-init g c = record { at = c.requires.first; same_cycle = refl; written = refl }

pub loop-i-preserved : goal.loop-i-preserved
loop-i-preserved g c =
    let l = c.loop-i in
    let a = c.args in
    let same = l.invariant.same_cycle in
    let row = rw same at c.make.ensures.row in
    let rows = rows_next a.buf.now a.row l.i (g.R.Rows.cells a.rows) l.invariant.written row c.put_row.ensures in
    record { at = c.make.ensures.next; same_cycle = c.make.ensures.same_cycle ∙ same; written = rw add-one rows }
