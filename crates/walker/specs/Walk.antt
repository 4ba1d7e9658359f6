-- What opening a walker answers and what a step gives, on any bytes; and document 01's numbers for each.
use Rattle.std.specs.Prelude.{ℕ, zero, suc, ◌*◌, List, [], Result, Ok, Err, ◌≡◌, eqb, length}
use Rattle.model.specs.Columns.{row_bytes, rows_of}
use Rattle.model.specs.Cycles.{next_row, Stepped, step}
use Rattle.model.specs.Tests.{pick}
use Rattle.model.specs.Verdict.{verdict}
use Rattle.refusal.specs.Refusals.{number, line, lineless}
use Rattle.refusal.specs.declared.Refusal.{Refusal}
use Rattle.trace.specs.Asked.{Answer, given, refused, of_accepted}
use Rattle.walker.specs.declared.Walker.{Walker}

-- the row at which an opened walker stands: at first the row after the empty ones. Opening a walker refuses as 9 to 11.
unfoldable pub start_of : List ℕ → Answer ℕ
start_of l = of_accepted (verdict l) (given (next_row (rows_of l) 0))

-- where a walker starts, or why it may not
abbrev pub told_start : Answer ℕ → Result ℕ Refusal
told_start (given n) = Ok n
told_start (refused m) = Err (lineless m)

-- the numbers of a refusal, and the row where the walker starts
pub record StartNumbers : Type 0 where
  pub refused : ℕ
  pub line : ℕ
  pub next : ℕ

-- those of a start; on a refusal all other result fields are 0
abbrev pub start_numbers : Result ℕ Refusal → StartNumbers
start_numbers (Ok n) = record { refused = 0; line = 0; next = n }
start_numbers (Err r) = record { refused = number r; line = line r; next = 0 }

-- A walker holds the lent trace and the next row: the bytes that it holds, and the row
pub record Begun : Type 0 where
  pub trace : List ℕ
  pub next : ℕ

-- the one that starts there, over the whole trace
abbrev pub begun_at : List ℕ → Result ℕ Refusal → Result Begun Refusal
begun_at l (Ok n) = Ok (record { trace = l; next = n })
begun_at l (Err r) = Err r

-- the one over these bytes, or why none is opened
abbrev pub begun : List ℕ → Result Begun Refusal
begun l = begun_at l (told_start (start_of l))

-- the code's
abbrev pub opened : Result Walker Refusal → Result Begun Refusal
opened (Ok w) = Ok (record { trace = w.trace.now; next = w.next })
opened (Err r) = Err r

-- a step on any walker, before and after, that gives these bytes: it keeps the trace and moves past what it gives
pub record Steps (before after : Walker) (bytes : List ℕ) : Type 0 where
  pub gives : bytes ≡ (step before.trace.now before.next).part
  pub keeps : after.trace ≡ before.trace
  pub moves : after.next ≡ (step before.trace.now before.next).next

-- what a walk goes over: the walker that was opened; where none was, nothing: on a refusal a returned part is empty
abbrev pub walked : Result Begun Refusal → Begun
walked (Ok b) = b
walked (Err r) = record { trace = []; next = 0 }

-- what the first step of an opened walker gives
unfoldable pub first_part : List ℕ → List ℕ
first_part l = (step (walked (begun l)).trace (walked (begun l)).next).part

-- the next row of an opened walker after so many steps
unfoldable pub walk : List ℕ → ℕ → ℕ
walk l zero = (walked (begun l)).next
walk l (suc k) = (step (walked (begun l)).trace (walk l k)).next

-- the first byte of the part that a step from this row gives, the part's length in bytes, and the next row; of an empty part 0 and 0
pub record StepNumbers : Type 0 where
  pub from : ℕ
  pub bytes : ℕ
  pub next : ℕ

-- those of a step from row i
abbrev pub step_numbers : (next : ℕ) → Stepped → StepNumbers
step_numbers i s = record { from = pick (eqb (length s.part) 0) 0 (i * row_bytes); bytes = length s.part; next = s.next }
