-- Exactly one trace: for a number of empty rows from one up and claims that fit, the defined trace is accepted with just these, and no other
-- bytes are.
use Prim.Native.Nat.{ℕ, suc, ◌*◌, ◌/◌, ◌^◌, ◌<◌, ◌≤◌}
use mathlib.Core.List.{List, [], ◌∷◌}
use mathlib.Core.Path.{◌≡◌, sym, ◌∙◌, ap, ap₂}
use native.Mathlib.Omega.{arith}
use lib.ListN.{length}
use Rattle.number.specs.Num.{AllBytes}
use Rattle.model.specs.Columns.{Cells, row_bytes, row_at, table, rows_of, bytes_of}
use Rattle.model.specs.Cycles.{Cycle, starts, cycles_from, Claim, Counts, claims, empty_rows, counts}
use Rattle.model.specs.Promises.{Meets, Valid, Fits, counts_of, Accepted, empty_in, claims_in, Carries, Own}
use Rattle.model.specs.Trace.{trace, trace_bytes}
use Rattle.model.specs.Verdict.{accepted, verdict_by, verdict}
use Rattle.model.proofs.FitLaws.{trace_fits}
use Rattle.model.proofs.JoinLaws.{length-trace}
use Rattle.model.proofs.ReadBack.{claims-trace, instructions_trace, empty_trace, counts-trace}
use Rattle.model.proofs.RowBytes.{AllFit, length_rows, row_fits, bytes_are_bytes, rows_back, bytes_back}
use Rattle.model.proofs.RowsVerdict.{verdict_of_rows}
use Rattle.model.proofs.TestFacts.{pick_has}
use Rattle.model.proofs.TraceMeets.{trace_holds}
use Rattle.model.proofs.TraceUnique.{rows_are_trace}
use Rattle.model.proofs.VerdictLaws.{judged_meet, verdict_accepted}

-- ---- existence

-- each cycle has a row of its own
cycles-le : (i : ℕ) (xs : List Cells) → length (cycles_from i xs) ≤ length xs
unfolding cycles_from
cycles-le i [] = omega arith
cycles-le i (x ∷ xs) =
    let rest = cycles-le (suc i) xs in
    pick_has (λ (cs : List Cycle). length cs ≤ suc (length xs)) (starts x) (λ e. omega arith) (λ e. omega arith)

-- so there are no more claims than rows
pub claims-le : (n : ℕ) (cs : List Claim) → length cs ≤ length (trace n cs)
claims-le n cs = omega (arith, instructions_trace n cs, cycles-le 0 (trace n cs))

claims-lt : (n : ℕ) (cs : List Claim) → Fits n cs → length cs < 256 ^ 4
claims-lt n cs f = omega (arith, claims-le n cs, f.rows)

module _ (n : ℕ) (cs : List Claim) (f : Fits n cs) where
  abbrev rows : List Cells
  rows = trace n cs

  abbrev l : List ℕ
  l = trace_bytes n cs

  fit : AllFit rows
  fit = trace_fits n cs f.valid (claims-lt n cs f)

  rows_read : rows_of l ≡ rows
  unfolding trace_bytes
  rows_read = rows_back rows fit

  -- the trace is accepted, with the counts of its claims
  pub trace_accepted : verdict l ≡ accepted (counts_of n cs)
  unfolding trace_bytes
  trace_accepted =
      let some : 0 < length rows = omega (arith, length-trace n cs, f.some) in
      verdict_of_rows rows fit some f.rows
      ∙ ap₂ verdict_by ((judged_meet _ (length rows) (length rows)).1 (trace_holds n cs f.some f.valid)) (counts-trace n cs)

  -- the claims that are read back from it are these
  pub claims_read : claims_in l ≡ cs
  claims_read = ap claims rows_read ∙ claims-trace n cs

  all_bytes : AllBytes l
  unfolding trace_bytes
  all_bytes = bytes_are_bytes rows

  -- it carries just these empty rows and claims
  pub trace_carries : Carries n cs l
  trace_carries = record {
    accepted = record { bytes = all_bytes; verdict = trace_accepted ∙ ap accepted (sym (ap counts rows_read ∙ counts-trace n cs)) };
    empty = ap empty_rows rows_read ∙ empty_trace n cs;
    claims = claims_read;
  }

-- ---- uniqueness

module _ (l : List ℕ) (a : Accepted l) where
  abbrev count : ℕ
  count = length l / row_bytes

  meets : Meets l (counts (rows_of l))
  meets = (verdict_accepted l (counts (rows_of l))).0 a.verdict

  some : 0 < count
  some = omega (arith, meets.sized.some, meets.sized.whole)

  inside : (i : ℕ) → i < count → suc i * row_bytes ≤ length l
  inside i h = omega arith

  are : (more : ℕ) × (cs : List Claim) × (Valid cs) × (table count (row_at l) ≡ trace (suc more) cs)
  are = rows_are_trace (row_at l) count some meets.holds (λ i h. row_fits l i a.bytes (inside i h))

  rows_are : rows_of l ≡ trace (suc are.0) are.1
  unfolding rows_of
  rows_are = are.3

  empty_are : empty_in l ≡ suc are.0
  empty_are = ap empty_rows rows_are ∙ empty_trace (suc are.0) are.1

  claims_are : claims_in l ≡ are.1
  claims_are = ap claims rows_are ∙ claims-trace (suc are.0) are.1

  -- the rows of accepted bytes are the trace of their own empty rows and claims
  pub rows_own : rows_of l ≡ trace (empty_in l) (claims_in l)
  rows_own = rw (empty_are, claims_are) rows_are

  -- accepted bytes have an empty row and valid claims, and are the trace of their own
  pub accepted_own : Own l
  unfolding trace_bytes
  accepted_own = record {
    fits = record { some = rw empty_are (omega arith); valid = rw claims_are are.2; rows = rw (← rows_own, length_rows) meets.sized.rows };
    bytes = sym (bytes_back l a.bytes meets.sized.whole) ∙ ap bytes_of rows_own;
  }

-- an answer "accepted", whatever counts it says, is that of an accepted trace
pub accepted_by : (l : List ℕ) (c : Counts) → AllBytes l → verdict l ≡ accepted c → Accepted l
accepted_by l c b e = record { bytes = b; verdict = e ∙ ap accepted ((verdict_accepted l c).0 e).counted }

-- ---- exactly one

-- one and only one byte string is accepted with just these empty rows and claims
pub exactly_one : (n : ℕ) (cs : List Claim) → Fits n cs → Carries n cs (trace_bytes n cs) × ((l : List ℕ) → Carries n cs l → l ≡ trace_bytes n cs)
exactly_one n cs f = (trace_carries n cs f, λ l c. (accepted_own l c.accepted).bytes ∙ ap₂ trace_bytes c.empty c.claims)

-- accepted traces with equal claims after equally many empty rows are equal bytes
pub equal_bytes : (l k : List ℕ) → Accepted l → Accepted k → empty_in l ≡ empty_in k → claims_in l ≡ claims_in k → l ≡ k
equal_bytes l k a b e c = (accepted_own l a).bytes ∙ ap₂ trace_bytes e c ∙ sym (accepted_own k b).bytes
