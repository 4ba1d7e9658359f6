-- `account::put_lines` meets its contract. The invariant: the lines of the instructions among the first i rows stand on the page, within room for a line a row, and
-- the rows are counted. `put_next` and `counted_next` give one row more.
use Prim.Native.Nat.{◌*◌, ◌≤◌}
use mathlib.Core.Path.{◌≡◌}
use lib.ListN.{length}
use Rattle.model.specs.Columns.{row_at, table}
use Rattle.model.specs.Cycles.{cycles, counts}
use Rattle.count.specs.Counts.{plain_counts}
use Rattle.account.specs.Report.{lines_text}
use Rattle.account.specs.Room.{max_line}
use Rattle.account.proofs.put_lines.Given as goal

abbrev pub invariant-loop-i : goal.invariant-loop-i
invariant-loop-i l =
    (l.page ≡ lines_text (cycles (table l.i (row_at l.trace)))) × (length l.page ≤ l.i * max_line) × (plain_counts l.counts ≡ counts (table l.i (row_at l.trace)))
