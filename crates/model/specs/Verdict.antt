-- The verdict of a trace: accepted with its counts, or the first broken constraint of the first row that breaks one; for any byte string.
use Rattle.std.specs.Prelude.{ℕ, zero, suc, ◌/◌, ◌%◌, not, ◌||◌, List, eqb, ltb, length}
use Rattle.model.specs.Columns.{Cells, empty_row, row_in, row_bytes, row_at, rows_of}
use Rattle.model.specs.Constraints.{in_use, View, first_broken}
use Rattle.model.specs.Cycles.{Counts, counts}
use Rattle.model.specs.State.{Context, State, context_of, state_of, fresh, put}
use Rattle.model.specs.Tests.{pick}

-- the row before row i; before the first stands a row of zeros
abbrev pub row_before : (ℕ → Cells) → ℕ → Cells
row_before r zero = empty_row
row_before r (suc i) = r i

-- the states once a row was passed
unfoldable pub passed : (Context → State) → Cells → Context → State
passed states x = pick (in_use x) (put states (context_of x) (state_of x)) states

-- the state of each context before row i: MEMN and COSTN of the latest earlier row of an instruction with that context, both 0 if there is none
unfoldable pub before : (ℕ → Cells) → ℕ → Context → State
before r zero = fresh
before r (suc i) = passed (before r i) (r i)

-- what is looked at where row i of n is judged
abbrev pub view : (ℕ → Cells) → (n i : ℕ) → View
view r n i = record {
  two = row_before (row_before r) i;
  one = row_before r i;
  this = r i;
  state = before r i (context_of (r i));
  first = eqb i 0;
  last = eqb (suc i) n;
}

-- the first broken constraint of row i of n, 0 if it meets all
unfoldable pub broken_at : (ℕ → Cells) → (n i : ℕ) → ℕ
broken_at r n i = first_broken (view r n i)

-- rows meet the constraints, or one of them (from 0) breaks one
pub data Judgement : Type 0 where
  meet : Judgement
  -- row and constraint
  break : ℕ → ℕ → Judgement

-- the first broken one is the lowest row, then the lowest number
abbrev pub and_row : Judgement → (i k : ℕ) → Judgement
and_row meet i zero = meet
and_row meet i (suc k) = break i (suc k)
and_row (break j m) i k = break j m

-- the rows below i, by the first broken constraint of each row, 0 if it meets all
unfoldable pub judged : (ℕ → ℕ) → ℕ → Judgement
judged first zero = meet
judged first (suc i) = and_row (judged first i) i (first i)

-- the judgement on a list of rows
abbrev pub judged_rows : List Cells → Judgement
judged_rows rows = judged (broken_at (row_in rows) (length rows)) (length rows)

-- what is said of a byte string
pub data Verdict : Type 0 where
  -- counts
  accepted : Counts → Verdict
  -- row and constraint
  broken : ℕ → ℕ → Verdict
  -- the number of a refusal
  refused : ℕ → Verdict

-- Limits: trace 65,536 rows.
abbrev pub max_rows : ℕ
max_rows = 65536

-- how many in-bounds instructions fill a trace behind one empty row
abbrev pub full_count : ℕ
full_count = 21845

-- 9: trace length 0 or not a multiple of 114; 10: more than 65,536 rows
abbrev pub bad_length : ℕ
bad_length = 9

abbrev pub too_many_rows : ℕ
too_many_rows = 10

-- accepted with its counts, or broken
abbrev pub verdict_by : Judgement → Counts → Verdict
verdict_by meet c = accepted c
verdict_by (break i k) c = broken i k

-- the verdict of a byte string; refusals come first, in the order of their numbers
unfoldable pub verdict : List ℕ → Verdict
verdict l =
    let n : ℕ = length l / row_bytes in
    pick (eqb (length l) 0 || not (eqb (length l % row_bytes) 0)) (refused bad_length)
    (pick (ltb max_rows n) (refused too_many_rows) (verdict_by (judged (broken_at (row_at l) n) n) (counts (rows_of l))))
