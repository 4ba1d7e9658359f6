-- The trace of claims, and what is known of its rows: what one claim more adds to it, and that the state recalled by it is the one that the claims leave.
use Prim.Native.Nat.{ℕ, suc, ◌+◌, ◌<◌, ◌≤◌}
use mathlib.Core.List.{List, [], ◌∷◌, ◌++◌, append-nil}
use mathlib.Core.Path.{◌≡◌, refl, ◌∙◌, ap}
use native.Mathlib.Omega.{arith}
use lib.ListN.{length, set, replicate, get_or-replicate, get_or-append}
use lib.Seq.{get_or-append-add}
use Rattle.model.specs.Columns.{Cells, empty_row, row_in}
use Rattle.model.specs.Constraints.{in_use}
use Rattle.model.specs.Cycles.{Claim, last_state}
use Rattle.model.specs.Promises.{Valid}
use Rattle.model.specs.State.{Context, State, fresh}
use Rattle.model.specs.Trace.{last_of, row_of, cycle_of, after_claims, cycle_after, cycles_of, trace}
use Rattle.model.specs.Verdict.{before, broken_at}
use Rattle.model.proofs.JoinLaws.{trace_snoc}
use Rattle.model.proofs.JudgeLaws.{judged_local}
use Rattle.model.proofs.LastState.{last_trace}
use Rattle.model.proofs.LatestCycle.{latest_cycle}
use Rattle.model.proofs.TableOf.{get_or-table, table_of_list}
use Rattle.model.proofs.TraceMeets.{trace_holds}
use Rattle.model.proofs.VerdictLaws.{judged_meet, before_local, first_broken_local}
use Rattle.state.proofs.LookLaws.{HoldBefore}
use Rattle.recent.specs.Notes.{slots, slot_of, Span, no_span, wider, Known, recalled}
use Rattle.recent.proofs.NoteLaws.{known_none, known_same, known_cycle, recalled-before}

-- a row of the trace of claims behind n empty rows, by its number
abbrev pub trace_row : (n : ℕ) → List Claim → ℕ → Cells
trace_row n cs = row_in (trace n cs)

-- ---- what is known

-- nothing is known of empty rows
pub known_empty : (n : ℕ) → Known (replicate slots 0) no_span (trace_row n []) n
unfolding trace cycles_of in_use
known_empty n = known_none no_span (trace_row n []) n (λ j h. rw (append-nil, get_or-replicate n j empty_row empty_row h))

module _ (n : ℕ) (cs : List Claim) (c : Claim) where
  abbrev first : ℕ
  first = length (trace n cs)

  rows_before : (j : ℕ) → j < first → trace_row n (cs ++ (c ∷ [])) j ≡ trace_row n cs j
  rows_before j h = rw (trace_snoc n cs c) (get_or-append (trace n cs) (cycle_after cs c) empty_row j h)

  row_of_cycle : (j : ℕ) → j ≤ last_of c → trace_row n (cs ++ (c ∷ [])) (first + j) ≡ row_of (suc (length cs)) (after_claims fresh cs c.context) c j
  unfolding cycle_of
  row_of_cycle j h =
      rw (trace_snoc n cs c) (get_or-append-add (trace n cs) (cycle_after cs c) j empty_row
      ∙ get_or-table (suc (last_of c)) (row_of (suc (length cs)) (after_claims fresh cs c.context) c) j empty_row (omega arith))

  -- with the rows of one claim more, the last of them is noted and its context is in the span
  pub known_claim : {l : List ℕ} {s : Span} → 0 < first → Known l s (trace_row n cs) first
      → Known (set l (slot_of c.context) (first + last_of c)) (wider s c.context) (trace_row n (cs ++ (c ∷ []))) (first + suc (last_of c))
  known_claim some known =
      known_cycle (known_same known (trace_row n (cs ++ (c ∷ []))) rows_before) some (length cs) (after_claims fresh cs c.context) c row_of_cycle

-- ---- the state

module _ (n : ℕ) (cs : List Claim) (some : 0 < n) (valid : Valid cs) where
  abbrev rows : List Cells
  rows = trace n cs

  before-behind : (x : Context) → before (trace_row n cs) (length rows) x ≡ after_claims fresh cs x
  before-behind x =
      latest_cycle (trace_row n cs) (length rows) (length rows) (trace_holds n cs some valid) x
      ∙ ap (λ (ys : List Cells). (last_state ys x).state) (table_of_list rows empty_row)
      ∙ last_trace n cs x

  module _ {r : ℕ → Cells} (there : (j : ℕ) → j < length rows → r j ≡ trace_row n cs j) where
    holds : HoldBefore r (length rows) (length rows)
    holds =
        let m : ℕ = length rows in
        let same : (j : ℕ) → j < m → broken_at r m j ≡ broken_at (trace_row n cs) m j =
        λ j h. first_broken_local r (trace_row n cs) m m j (λ i l. there i (omega arith)) refl in
        (judged_meet r m m).0 (judged_local (broken_at r m) (broken_at (trace_row n cs) m) m same ∙ (judged_meet (trace_row n cs) m m).1 (trace_holds n cs some valid))

    -- where the rows are those of the trace, it is the state that the claims leave
    pub recalled-after : {l : List ℕ} {s : Span} → Known l s (trace_row n cs) (length rows) → (x : Context) → recalled r l s x ≡ after_claims fresh cs x
    recalled-after known x =
        recalled-before (known_same known r there) (length rows) holds x
        ∙ ap (λ (s : Context → State). s x) (before_local r (trace_row n cs) (length rows) there)
        ∙ before-behind x
