-- The words in which the theorems about traces are written.
use Rattle.std.specs.Prelude.{ℕ, suc, ◌/◌, ◌%◌, ◌^◌, ◌<◌, ◌≤◌, false, true, not, List, [], ◌∷◌, ◌≡◌, length, get_or}
use Rattle.number.specs.Num.{AllBytes}
use Rattle.model.specs.Columns.{Cells, row_bytes, row_at, rows_of}
use Rattle.model.specs.Constraints.{constraint}
use Rattle.model.specs.Cycles.{Cycle, Claim, Counts, Looked, claims, count, empty_rows, counts, no_cycle}
use Rattle.model.specs.State.{Context, same_context, context_of, state_of, start}
use Rattle.model.specs.Trace.{in_bounds, trace, trace_bytes}
use Rattle.model.specs.Verdict.{view, accepted, max_rows, verdict}

-- ---- the verdict

-- how many constraints there are
abbrev pub constraint_count : ℕ
constraint_count = 26

-- constraint k holds at row i of n
abbrev pub Holds : (ℕ → Cells) → (n i k : ℕ) → Type 0
Holds r n i k = constraint k (view r n i) ≡ true

-- all constraints hold at row i of n
abbrev pub AllHold : (ℕ → Cells) → (n i : ℕ) → Type 0
AllHold r n i = (k : ℕ) → 1 ≤ k → k ≤ constraint_count → Holds r n i k

-- row i is the lowest that breaks a constraint, and k the lowest that it breaks
pub record FirstBroken (r : ℕ → Cells) (n i k : ℕ) : Type 0 where
  pub row : i < n
  pub from : 1 ≤ k
  pub to : k ≤ constraint_count
  pub fails : constraint k (view r n i) ≡ false
  pub lower : (m : ℕ) → 1 ≤ m → m < k → Holds r n i m
  pub earlier : (j : ℕ) → j < i → AllHold r n j

-- whole rows, at least one and no more than a trace may have
pub record WellSized (l : List ℕ) : Type 0 where
  pub some : 0 < length l
  pub whole : length l % row_bytes ≡ 0
  pub rows : length l / row_bytes ≤ max_rows

-- rows at which all constraints hold, with their counts
pub record Meets (l : List ℕ) (c : Counts) : Type 0 where
  pub sized : WellSized l
  pub holds : (i : ℕ) → i < length l / row_bytes → AllHold (row_at l) (length l / row_bytes) i
  pub counted : c ≡ counts (rows_of l)

-- ---- claims that a trace can carry

-- CN 1 to 2^32-1, ends of 17 bytes
pub record ValidClaim (c : Claim) : Type 0 where
  pub some : 0 < c.context.cn
  pub cn : c.context.cn < 2 ^ 32
  pub end1 : c.end1 < 256 ^ 17
  pub end2 : c.end2 < 256 ^ 17

-- each of the claims is valid
abbrev pub Valid : List Claim → Type 0
Valid [] = Unit
Valid (c ∷ cs) = ValidClaim c × Valid cs

-- a number of empty rows from one up and claims whose rows fit a trace
pub record Fits (n : ℕ) (cs : List Claim) : Type 0 where
  pub some : 0 < n
  pub valid : Valid cs
  pub rows : length (trace n cs) ≤ max_rows

-- how many of the claims are in bounds, and how many are not
abbrev pub count_in : List Claim → ℕ
count_in cs = count in_bounds cs

abbrev pub count_out : List Claim → ℕ
count_out cs = count (λ c. not (in_bounds c)) cs

-- the counts of claims after so many empty rows
abbrev pub counts_of : ℕ → List Claim → Counts
counts_of empty cs = record { instructions = length cs; oob = count_out cs; empty = empty }

-- ---- a byte string as a trace

-- bytes whose verdict is "accepted"
pub record Accepted (l : List ℕ) : Type 0 where
  pub bytes : AllBytes l
  pub verdict : verdict l ≡ accepted (counts (rows_of l))

-- its empty rows, and its claims
abbrev pub empty_in : List ℕ → ℕ
empty_in l = empty_rows (rows_of l)

abbrev pub claims_in : List ℕ → List Claim
claims_in l = claims (rows_of l)

-- it is accepted with just these empty rows and claims
pub record Carries (n : ℕ) (cs : List Claim) (l : List ℕ) : Type 0 where
  pub accepted : Accepted l
  pub empty : empty_in l ≡ n
  pub claims : claims_in l ≡ cs

-- it has an empty row and valid claims, and is the trace of its own empty rows and claims
pub record Own (l : List ℕ) : Type 0 where
  pub fits : Fits (empty_in l) (claims_in l)
  pub bytes : l ≡ trace_bytes (empty_in l) (claims_in l)

-- ---- the last state

-- an answer to the last-state question over cycles, the last one first: the first with the context is found at a place (from 0)
pub record Found (x : Context) (cs : List Cycle) (a : Looked) : Type 0 where
  pub place : ℕ
  pub inside : place < length cs
  pub own : same_context (context_of (get_or cs place no_cycle).row) x ≡ true
  pub later : (j : ℕ) → j < place → same_context (context_of (get_or cs j no_cycle).row) x ≡ false
  pub state : a.state ≡ state_of (get_or cs place no_cycle).row
  pub looked : a.cycles ≡ suc place

-- or there is none, and all cycles were looked at
pub record Absent (x : Context) (cs : List Cycle) (a : Looked) : Type 0 where
  pub none : (j : ℕ) → j < length cs → same_context (context_of (get_or cs j no_cycle).row) x ≡ false
  pub state : a.state ≡ start
  pub looked : a.cycles ≡ length cs
