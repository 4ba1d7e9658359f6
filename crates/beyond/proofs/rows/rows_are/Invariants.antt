-- `beyond::rows::rows_are` meets its contract. The invariant: row i is the next to be made, of the same cycle, and the first i rows of it stand.
use Rattle.std.proofs.Common.{◌≡◌}
use Rattle.std.specs.Prelude.{true}
use Rattle.model.specs.Columns.{row_at}
use Rattle.compare.specs.Same.{rows_stand}
use Rattle.beyond.proofs.rows.rows_are.Given as goal

abbrev pub invariant-loop-i : goal.invariant-loop-i
invariant-loop-i g l =
    let r = g.R.Rows in record {
      at : r.at l.rows l.i;
      same_cycle : r.cells l.rows ≡ r.cells l.fn.rows;
      stand : rows_stand (row_at l.t) l.row (r.cells l.fn.rows) l.i ≡ true;
    }
