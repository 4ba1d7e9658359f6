-- `beyond::rows::put_rows` meets its contract. The invariant: row i is the next to be made, of the same cycle, and the first i rows are written.
use Rattle.std.proofs.Common.{◌≡◌, ◌*◌}
use Rattle.std.proofs.lemmas.List.Edits.{sets}
use Rattle.model.specs.Columns.{row_bytes, table, bytes_of}
use Rattle.beyond.proofs.rows.put_rows.Given as goal

abbrev pub invariant-loop-i : goal.invariant-loop-i
invariant-loop-i g l =
    let r = g.R.Rows in record {
      at : r.at l.rows l.i;
      same_cycle : r.cells l.rows ≡ r.cells l.fn.rows;
      written : l.buf ≡ sets l.initial.buf (l.row * row_bytes) (bytes_of (table l.i (r.cells l.fn.rows)));
    }
