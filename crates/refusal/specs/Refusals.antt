-- A refusal by its number. 9 and 10, of a trace that is none, are the model's: its verdict gives them.
use Rattle.std.specs.Prelude.{ℕ, List, ◌++◌, eqb, decimal, codes}
use Rattle.number.specs.Tests.{pick}
pub use Rattle.model.specs.Verdict.{bad_length, too_many_rows}
use Rattle.refusal.specs.declared.Refusal.{Refusal}
use Rattle.refusal.specs.declared.Refusal.TheVariants.{ListTooLong, NoEmptyRow, NotOfForm, CnZero, NotListed, UnusedField, FillTooLong, BufferShort}
use Rattle.refusal.specs.declared.Refusal.TheVariants.{BadLength, TooManyRows, NotAccepted, NoInstruction, ContextZero, LimitTooLow}

-- the refusals of a list before it is read: it is too long, or the empty rows are 0
abbrev pub list_too_long : ℕ
list_too_long = 1

abbrev pub no_empty_row : ℕ
no_empty_row = 2

-- the refusals of a line: it is not of the form, its cn is 0, its opcode is not in the table, a field that the opcode has no use for is not 0
abbrev pub not_of_form : ℕ
not_of_form = 3

abbrev pub cn_zero : ℕ
cn_zero = 4

abbrev pub not_listed : ℕ
not_listed = 5

abbrev pub unused_field : ℕ
unused_field = 6

-- the refusals of its trace: it has more rows than a trace may have, or the buffer is short
abbrev pub fill_too_long : ℕ
fill_too_long = 7

abbrev pub buffer_short : ℕ
buffer_short = 8

-- the refusals of a question to a trace: it is not accepted, there is no instruction k, the context is 0, more cycles are needed than the limit
abbrev pub not_accepted : ℕ
not_accepted = 11

abbrev pub no_instruction : ℕ
no_instruction = 12

abbrev pub context_zero : ℕ
context_zero = 13

abbrev pub limit_too_low : ℕ
limit_too_low = 14

-- the number of a refusal
abbrev pub number : Refusal → ℕ
number ListTooLong = list_too_long
number NoEmptyRow = no_empty_row
number (NotOfForm l) = not_of_form
number (CnZero l) = cn_zero
number (NotListed l) = not_listed
number (UnusedField l) = unused_field
number FillTooLong = fill_too_long
number BufferShort = buffer_short
number BadLength = bad_length
number TooManyRows = too_many_rows
number NotAccepted = not_accepted
number NoInstruction = no_instruction
number ContextZero = context_zero
number LimitTooLow = limit_too_low

-- 3 to 6 give the line from 1; others give line 0.
abbrev pub line : Refusal → ℕ
line ListTooLong = 0
line NoEmptyRow = 0
line (NotOfForm l) = l
line (CnZero l) = l
line (NotListed l) = l
line (UnusedField l) = l
line FillTooLong = 0
line BufferShort = 0
line BadLength = 0
line TooManyRows = 0
line NotAccepted = 0
line NoInstruction = 0
line ContextZero = 0
line LimitTooLow = 0

-- what is shown of a refusal: its number and its line, in decimal
abbrev pub shown : Refusal → List ℕ
shown r = codes "refused=" ++ decimal (number r) ++ codes " line=" ++ decimal (line r)

-- the refusal with a number, in this line where it is one of a line
abbrev pub in_line : (number line : ℕ) → Refusal
in_line n l =
    pick (eqb n list_too_long) ListTooLong
    (pick (eqb n no_empty_row) NoEmptyRow
    (pick (eqb n not_of_form) (NotOfForm l)
    (pick (eqb n cn_zero) (CnZero l)
    (pick (eqb n not_listed) (NotListed l)
    (pick (eqb n unused_field) (UnusedField l)
    (pick (eqb n fill_too_long) FillTooLong
    (pick (eqb n buffer_short) BufferShort
    (pick (eqb n bad_length) BadLength
    (pick (eqb n too_many_rows) TooManyRows
    (pick (eqb n not_accepted) NotAccepted
    (pick (eqb n no_instruction) NoInstruction
    (pick (eqb n context_zero) ContextZero
    LimitTooLow))))))))))))

-- the refusal with a number, of no line
abbrev pub lineless : ℕ → Refusal
lineless n = in_line n 0
