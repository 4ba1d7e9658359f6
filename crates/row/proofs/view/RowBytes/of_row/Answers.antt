-- `row::view::RowBytes::of_row` meets its contract: the bytes that are cut out of the trace are row i of it.
use native.Mathlib.Omega.{arith}
use Rattle.row.proofs.RowLaws.{row_cut}
use Rattle.row.proofs.view.RowBytes.of_row.Goals as goal

pub returns : goal.returns
returns c = row_cut c.args.trace.now c.args.i _ (omega arith)
