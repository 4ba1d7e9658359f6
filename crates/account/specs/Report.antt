-- What `account` prints for the bytes that it reads.
use Rattle.std.specs.Prelude.{ℕ, ◌*◌, List, [], ◌∷◌, ◌++◌, ltb, length}
use Rattle.form.specs.Ascii.{ascii}
use Rattle.gas.specs.Gas.{words}
use Rattle.model.specs.Columns.{Cells, row_bytes}
use Rattle.model.specs.Cycles.{Cycle, cycles, counts}
use Rattle.model.specs.Tests.{pick}
use Rattle.refusal.specs.Refusals.{list_too_long}
use Rattle.text.specs.Line.{field, refused_line}
use Rattle.filler.specs.Answer.{told, numbers}
use Rattle.filler.specs.Fill.{Outcome, written, refused, outcome}

-- size is what MSIZE would give after the instruction, taken as MEMN
abbrev pub printed_size : Cells → ℕ
printed_size x = x.memn

-- a line: `stamp= cn= oob=` and then `size= words= gas=`
abbrev pub mark_text : (stamp cn oob : ℕ) → List ℕ
mark_text stamp cn oob = field (ascii "stamp=") stamp ++ field (ascii " cn=") cn ++ field (ascii " oob=") oob

abbrev pub charge_text : (size words gas : ℕ) → List ℕ
charge_text size words gas = field (ascii " size=") size ++ field (ascii " words=") words ++ field (ascii " gas=") gas ++ ascii "\n"

-- words is MEMN/32 rounded up; gas is GAS; stamp, cn and oob are STAMP, CN and OOOB
abbrev pub line_text : Cells → List ℕ
line_text x = mark_text x.stamp x.cn x.ooob ++ charge_text (printed_size x) (words x.memn) x.gas

-- a line for each cycle
unfoldable pub lines_text : List Cycle → List ℕ
lines_text [] = []
lines_text (c ∷ cs) = line_text c.row ++ lines_text cs

-- The last line counts the instructions, the out-of-bounds ones and all rows written, the empty row too.
abbrev pub total_text : (instructions oob rows : ℕ) → List ℕ
total_text instructions oob rows =
    field (ascii "instructions=") instructions ++ field (ascii " oob=") oob ++ field (ascii " rows=") rows ++ ascii "\n"

-- all lines for the rows of a trace
unfoldable pub account_text : List Cells → List ℕ
account_text rows = lines_text (cycles rows) ++ total_text (counts rows).instructions (counts rows).oob (length rows)

-- `account` reads a list of at most 65,536 bytes (more: refusal 1), uses 1 empty row and room for 574 rows.
abbrev pub account_bytes : ℕ
account_bytes = 65536

abbrev pub account_empty : ℕ
account_empty = 1

abbrev pub room_rows : ℕ
room_rows = 574

-- what it does with the bytes read
unfoldable pub done : List ℕ → Outcome
done l = pick (ltb account_bytes (length l)) (refused list_too_long 0) (outcome l account_empty (room_rows * row_bytes))

-- what is printed for that: the lines of the rows written, `refused= line=` alone on a refusal
abbrev pub printed : Outcome → List ℕ
printed (written rows) = account_text rows
printed (refused n l) = refused_line (numbers (told (refused n l))).refused (numbers (told (refused n l))).line

-- the bytes printed for the bytes read
abbrev pub report : List ℕ → List ℕ
report l = printed (done l)
