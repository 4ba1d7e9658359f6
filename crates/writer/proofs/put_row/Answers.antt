-- `writer::put_row` meets its contract: `row_of_parts_stored` makes one run of the stores of the two parts.
use Rattle.row.specs.Plain.{plain}
use Rattle.writer.proofs.PutLaws.{row_of_parts_stored}
use Rattle.writer.proofs.put_row.Goals as goal

pub returns : goal.returns
returns c =
    let a = c.args in
    row_of_parts_stored (plain a.x) a.buf.now a.i c.put_up_to_gas.ensures c.put_from_comp.ensures
