-- What the checker works out as it goes from row to row.
use Rattle.std.specs.Prelude.{ℕ, ◌≡◌, ◌+◌, ◌/◌, Bool, true, List, eqb, length}
use Rattle.model.specs.Columns.{Cells, row_bytes, table}
use Rattle.model.specs.Constraints.{k9, k25, constraints_by, first_failed}
use Rattle.model.specs.Cycles.{starts, counts}
use Rattle.model.specs.Promises.{WellSized}
use Rattle.model.specs.State.{context_of}
use Rattle.model.specs.Tests.{pick}
use Rattle.model.specs.Verdict.{row_before, broken_at, judged, verdict_by}
use Rattle.state.specs.Look.{look_back}
use Rattle.checker.specs.Answer.{told}
use Rattle.checker.specs.declared.Verdict.{Verdict}

-- the whole rows of a trace are all its bytes, and there are some, and no more than a trace may have
pub record RowsOf (l bytes : List ℕ) (count : ℕ) : Type 0 where
  pub sized : WellSized l
  pub all : bytes ≡ l
  pub counted : count ≡ length l / row_bytes

-- the answer to constraint 9 for row i: it is asked where a cycle starts, of the state that the look-up over `cycles` cycles finds
unfoldable pub asked : (ℕ → Cells) → (cycles i : ℕ) → Bool
asked r cycles i = pick (starts (r i)) (k9 (look_back r (context_of (r i)) cycles i).state (r i)) true

-- the first constraint that row i of n breaks, with this answer to 9
unfoldable pub first_at : (ℕ → Cells) → (n cycles i : ℕ) → ℕ
first_at r n cycles i =
    first_failed 1 (constraints_by (row_before (row_before r) i) (row_before r i) (r i) (eqb i 0) (eqb (i + 1) n) (asked r cycles i) (k25 (r i)))

-- the answer on n rows: the first that breaks a constraint, or their counts
abbrev pub judgement : (ℕ → Cells) → ℕ → Verdict
judgement r n = told (verdict_by (judged (broken_at r n) n) (counts (table n r)))
