-- No program of the wrong kinds is exact: against each kind an example that the kernel computes.
use Prim.Native.Nat.{ℕ, ◌-◌, ◌^◌, ◌<◌}
use mathlib.Core.List.{List, [], ◌∷◌}
use mathlib.Core.Logic.{◌≢◌}
use mathlib.Core.Path.{◌≡◌, refl, ◌∙◌, ap}
use native.Mathlib.Omega.{arith}
use lib.Dec.{T, ltb, ltb→lt, lit<, lit≤}
use lib.ListN.{get_or, replicate}
use Rattle.number.specs.Cells.{encode, decode}
use Rattle.number.specs.Num.{num, be, AllBytes}
use Rattle.number.specs.Tables.{every}
use Rattle.number.proofs.TableLaws.{every_at}
use Rattle.model.specs.Columns.{row_bytes, row_at, rows_of, table, bytes_of}
use Rattle.model.specs.Constraints.{first_broken, in_use, k1, k2, k3, k4, k5, k6, k26, first_or}
use Rattle.model.specs.Cycles.{Claim, Counts, counts, empty_rows, cycles_from, count, starts}
use Rattle.model.specs.Promises.{ValidClaim, Fits, WellSized}
use Rattle.model.specs.Steps.{ct_moves}
use Rattle.model.specs.Trace.{in_bounds, last_of, in_row, row_of, cycle_of, cycles_of, trace, trace_bytes}
use Rattle.model.specs.Verdict.{judged, broken_at, accepted, broken, verdict}
use Rattle.model.specs.Wrong.{Checker, ExactChecker, AcceptsAll, RejectsAll, Filler, ExactFiller, WritesNothing, WritesFixed, RepeatsFirst}

-- ---- checkers

-- the bytes of one row, of which all but the first are 0
abbrev row : ℕ → List ℕ
row b = b ∷ replicate (row_bytes - 1) 0

row_bytes_lem : (b : ℕ) → T (every (λ (v : ℕ). ltb v 256) (row b)) → AllBytes (row b)
row_bytes_lem b t i h = ltb→lt (get_or (row b) i 0) 256 (every_at (λ (v : ℕ). ltb v 256) (row b) t i 0 h)

row_sized : (b : ℕ) → WellSized (row b)
row_sized b = record { some = omega arith; whole = refl; rows = lit≤ tt }

abbrev one_empty : Counts
one_empty = record { instructions = 0; oob = 0; empty = 1 }

accepted_row : verdict (row 0) ≡ accepted one_empty
unfolding verdict judged broken_at first_broken first_or in_use k1 k2 k3 k4 k5 k6 k26 ct_moves
    row_at decode num rows_of table counts empty_rows cycles_from count starts
accepted_row = refl

-- constraint 2: row 0 has STAMP 0
broken_row : verdict (row 1) ≡ broken 0 2
unfolding verdict judged broken_at first_broken first_or k1 k2 row_at decode num
broken_row = refl

module _ (f : Checker) (e : ExactChecker f) where
  -- an exact checker does not accept everything of a trace's size
  pub exact_not_accepts_all : ¬ AcceptsAll f
  exact_not_accepts_all a =
      let b : AllBytes (row 1) = row_bytes_lem 1 tt in
      let (c, p) = a (row 1) b (row_sized 1) in
      let z : ◌≡◌ {A = ℕ} 0 1 = cc (e (row 1) b, broken_row) in
      omega arith

  -- and does not reject everything
  pub exact_not_rejects_all : ¬ RejectsAll f
  exact_not_rejects_all r =
      let b : AllBytes (row 0) = row_bytes_lem 0 tt in
      r (row 0) b one_empty (e (row 0) b ∙ accepted_row)

-- ---- fillers

-- claims that touch nothing: one of context 1, then one of context k
abbrev nothing : ℕ → Claim
nothing k = record { context = record { cn = k }; end1 = 0; end2 = 0 }

abbrev two : ℕ → List Claim
two k = nothing 1 ∷ nothing k ∷ []

nothing_valid : (k : ℕ) → 0 < k → k < 2 ^ 32 → ValidClaim (nothing k)
nothing_valid k h l = record { some = h; cn = l; end1 = lit< tt; end2 = lit< tt }

two_fit : (k : ℕ) → 0 < k → k < 2 ^ 32 → Fits 1 (two k)
unfolding trace cycles_of cycle_of table last_of in_bounds
two_fit k h l = record { some = omega arith; valid = (nothing_valid 1 (omega arith) (omega arith), (nothing_valid k h l, tt)); rows = lit≤ tt }

two_differ : trace_bytes 1 (two 1) ≢ trace_bytes 1 (two 2)
unfolding trace_bytes trace cycles_of cycle_of table last_of in_bounds row_of in_row bytes_of encode be row_at decode num
two_differ e =
    let z : ◌≡◌ {A = ℕ} 1 2 = ap (λ (l : List ℕ). (row_at l 4).cn) e in
    omega arith

module _ (f : Filler) (e : ExactFiller f) where
  -- an exact filler does not repeat the first cycle
  pub exact_not_repeats_first : ¬ RepeatsFirst f
  exact_not_repeats_first (g, p) =
      let a : Fits 1 (two 1) = two_fit 1 (omega arith) (omega arith) in
      let b : Fits 1 (two 2) = two_fit 2 (omega arith) (omega arith) in
      two_differ (cc (e 1 (two 1) a, e 1 (two 2) b, p 1 (nothing 1) (nothing 1 ∷ []) a, p 1 (nothing 1) (nothing 2 ∷ []) b))

  -- does not write one fixed trace
  pub exact_not_writes_fixed : ¬ WritesFixed f
  exact_not_writes_fixed (t, p) = exact_not_repeats_first (λ n c k. t, λ n c cs. p n (c ∷ cs))

  -- and does not write nothing
  pub exact_not_writes_nothing : ¬ WritesNothing f
  exact_not_writes_nothing p = exact_not_writes_fixed ([], p)
