-- The lines as they are put, row by row, and the room that they take.
use Rattle.std.specs.Prelude.{ℕ, ◌+◌, ◌*◌, ◌≤◌, List, [], ◌≡◌, length}
use Rattle.model.specs.Columns.{Cells}
use Rattle.model.specs.Cycles.{starts, cycles, counts}
use Rattle.model.specs.Tests.{pick}
use Rattle.text.specs.Decimal.{max_digits}
use Rattle.count.specs.Counts.{plain_counts}
use Rattle.account.specs.Report.{line_text, lines_text, room_rows}
use Rattle.count.specs.declared.Counts.{Counts}

-- the line of a row that starts a cycle, and nothing for any other
abbrev pub row_text : Cells → List ℕ
row_text x = pick (starts x) (line_text x) []

-- the most bytes of the two parts of a line, of a line and of the last line: their names, three numbers each, and a newline
abbrev pub max_mark : ℕ
max_mark = 15 + 3 * max_digits

abbrev pub max_charge : ℕ
max_charge = 19 + 3 * max_digits

abbrev pub max_line : ℕ
max_line = max_mark + max_charge

abbrev pub max_total : ℕ
max_total = 25 + 3 * max_digits

-- room for a line for each row and for the last line
abbrev pub max_report : ℕ
max_report = room_rows * max_line + max_total

-- the lines of the instructions among the rows stand on the page, within room for a line a row, and the rows are counted
pub record LinesPut (rows : List Cells) (page : List ℕ) (answer : Counts) : Type 0 where
  pub put : page ≡ lines_text (cycles rows)
  pub room : length page ≤ length rows * max_line
  pub counted : plain_counts answer ≡ counts rows
