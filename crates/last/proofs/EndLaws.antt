-- The last row of an accepted trace: its STAMP is the number of instructions, and no cycle is left open.
use Prim.Native.Nat.{ℕ, zero, suc, ◌+◌, ◌-◌, ◌/◌, ◌<◌, ◌≤◌}
use mathlib.Core.List.{List, [], ◌∷◌, ◌++◌, append-nil}
use mathlib.Core.Logic.{◌⊎◌, inl, inr}
use mathlib.Core.Path.{◌≡◌, refl, sym, ◌∙◌, ap}
use native.Mathlib.Nat.{lt-suc_self}
use native.Mathlib.Omega.{arith}
use lib.ListN.{length, get_or, take, length-append, length-replicate, get_or-replicate}
use lib.Seq.{length-take-le, take-length, take-suc, get_or-append-add}
use Rattle.model.specs.Columns.{Cells, empty_row, row_in, row_bytes, row_at, rows_of}
use Rattle.model.specs.Constraints.{last_ct}
use Rattle.model.specs.Cycles.{Claim}
use Rattle.model.specs.Promises.{Accepted, empty_in, claims_in}
use Rattle.model.specs.State.{State, fresh}
use Rattle.model.specs.Trace.{last_of, row_of, cycle_of, after_claims, cycles_of, trace}
use Rattle.model.specs.Verdict.{row_before}
use Rattle.model.proofs.ExactlyOne.{rows_own, accepted_own}
use Rattle.model.proofs.JoinLaws.{length_cycle, length-trace, trace_snoc}
use Rattle.model.proofs.ReadBack.{is_row, last_of_row, no_claim}
use Rattle.model.proofs.RowBytes.{length_rows, row_of_rows}
use Rattle.model.proofs.TableOf.{get_or-table}

-- a row with which k instructions may end: its STAMP is k, and it is empty or the last of a cycle
pub record Closes (k : ℕ) (x : Cells) : Type 0 where
  pub stamp : x.stamp ≡ k
  pub between : (x.stamp ≡ 0) ⊎ (x.ct ≡ last_ct x.ooob)

-- the last of some rows
abbrev end_of : List Cells → Cells
end_of rows = row_in rows (length rows - 1)

-- ---- in the trace of claims

closes_none : (n : ℕ) → 0 < n → Closes 0 (end_of (trace n []))
unfolding trace cycles_of
closes_none n some =
    rw (append-nil, length-replicate, get_or-replicate n (n - 1) empty_row empty_row (omega arith)) (record { stamp = refl; between = inl refl })

closes_snoc : (n : ℕ) (cs : List Claim) (c : Claim) → Closes (suc (length cs)) (end_of (trace n (cs ++ (c ∷ []))))
unfolding cycle_of
closes_snoc n cs c =
    let s : State = after_claims fresh cs c.context in
    let last : ℕ = last_of c in
    let x = is_row (suc (length cs)) s c last in
    let place : length (trace n cs) + suc last - 1 ≡ length (trace n cs) + last = omega arith in
    let row : row_in (cycle_of (suc (length cs)) s c) last ≡ row_of (suc (length cs)) s c last =
    get_or-table (suc last) (row_of (suc (length cs)) s c) last empty_row (lt-suc_self last) in
    rw (trace_snoc, length-append, length_cycle, place, get_or-append-add, row)
    (record { stamp = x.stamp; between = inr (x.ct ∙ sym (last_of_row (suc (length cs)) s c last)) })

closes_upto : (n : ℕ) (cs : List Claim) → 0 < n → (k : ℕ) → k ≤ length cs → Closes k (end_of (trace n (take k cs)))
closes_upto n cs some zero h = closes_none n some
closes_upto n cs some (suc k) h =
    let done : length (take k cs) ≡ k = length-take-le k cs (omega arith) in
    rw (take-suc cs k no_claim h) (rw done at (closes_snoc n (take k cs) (get_or cs k no_claim)))

closes_trace : (n : ℕ) (cs : List Claim) → 0 < n → Closes (length cs) (end_of (trace n cs))
closes_trace n cs some = rw (take-length cs) at (closes_upto n cs some (length cs) (omega arith))

-- ---- in accepted bytes

row_before_end : (l : List ℕ) (rows : ℕ) → length (rows_of l) ≡ rows → 0 < rows → row_before (row_at l) rows ≡ end_of (rows_of l)
row_before_end l zero e some = absurd (omega arith)
row_before_end l (suc i) e some =
    let last : length (rows_of l) - 1 ≡ i = omega arith in
    rw last (row_of_rows l i (omega arith))

-- the last row of an accepted trace closes its instructions
pub trace_closes : (l : List ℕ) → Accepted l → Closes (length (claims_in l)) (row_before (row_at l) (length l / row_bytes))
trace_closes l a =
    let own = rows_own l a in
    let empty : 0 < empty_in l = (accepted_own l a).fits.some in
    let rows : length (rows_of l) ≡ length l / row_bytes = length_rows l in
    let some : 0 < length l / row_bytes = omega (arith, length-trace (empty_in l) (claims_in l), ap length own) in
    rw (row_before_end l (length l / row_bytes) rows some) (rw (← own) at (closes_trace (empty_in l) (claims_in l) empty))
