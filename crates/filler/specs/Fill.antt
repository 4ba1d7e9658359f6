-- What the filler does with a list: it writes the rows of its trace, or refuses; and what the buffer holds afterwards.
use Rattle.std.specs.Prelude.{ℕ, ◌*◌, List, ◌++◌, map, eqb, ltb, length, drop}
use Rattle.model.specs.Columns.{Cells, row_bytes, bytes_of}
use Rattle.model.specs.Tests.{pick}
use Rattle.model.specs.Trace.{trace}
use Rattle.model.specs.Verdict.{max_rows}
use Rattle.refusal.specs.Refusals.{list_too_long, no_empty_row, fill_too_long, buffer_short}
use Rattle.claim.specs.Claims.{claim_of}
use Rattle.list.specs.List.{Listed, instructions, refused_in, read_list}
use Rattle.lines.specs.Lines.{max_list}

-- what the filler does
pub data Outcome : Type 0 where
  -- it writes these rows
  written : List Cells → Outcome
  -- it refuses, with this number and line
  refused : (number line : ℕ) → Outcome

-- rows for a buffer of so many bytes. 7: more than 65,536 rows. 8: buffer short.
unfoldable pub placed : (room : ℕ) → List Cells → Outcome
placed room rows =
    pick (ltb max_rows (length rows)) (refused fill_too_long 0)
    (pick (ltb room (length rows * row_bytes)) (refused buffer_short 0) (written rows))

-- a list that was read: its first refusal, or the trace of its claims after so many empty rows
abbrev pub filled : (empty room : ℕ) → Listed → Outcome
filled empty room (instructions is) = placed room (trace empty (map claim_of is))
filled empty room (refused_in n l at) = refused n l

-- The order is the number; 3 to 6 go line by line. 1: list too long. 2: empty rows 0. A text, so many empty rows, and a buffer of so many bytes:
unfoldable pub outcome : (t : List ℕ) → (empty room : ℕ) → Outcome
outcome t empty room =
    pick (ltb max_list (length t)) (refused list_too_long 0)
    (pick (eqb empty 0) (refused no_empty_row 0) (filled empty room (read_list 1 t)))

-- The rows written; bytes after them stay. On a refusal lent bytes stay.
abbrev pub buffer_after : Outcome → List ℕ → List ℕ
buffer_after (written rows) buf = bytes_of rows ++ drop (length rows * row_bytes) buf
buffer_after (refused n l) buf = buf
