-- The table of adverse traces: tests that the kernel computes over the whole table, and laws that turn them into what each entry says. And what is
-- read off document 01's sample, computed.
use Prim.Native.Nat.{ℕ, zero, suc, ◌^◌, ◌≤◌, ◌<◌}
use mathlib.Core.Bool.{Bool, true, false, ◌&&◌}
use mathlib.Core.List.{List, [], ◌∷◌}
use mathlib.Core.Logic.{◌≢◌}
use mathlib.Core.Path.{◌≡◌, refl, sym, ◌∙◌, ap, ap₂}
use native.Mathlib.Nat.{not-suc-le-zero}
use lib.Dec.{T, eqb, eqb→eq, ltb, ltb→lt, leb, leb→le}
use lib.ListN.{length, set}
use lib.Seq.{get_or-set_other}
use Rattle.number.specs.Cells.{encode, decode, Fit}
use Rattle.number.specs.Num.{num, be}
use Rattle.number.specs.Sums.{prefix_at, digit_at}
use Rattle.number.specs.Tables.{every}
use Rattle.number.proofs.TableLaws.{every_at, and_left, and_right}
use Rattle.gas.specs.Gas.{words, cost, split, joined}
use Rattle.number.proofs.TestLaws.{is_true}
use Rattle.model.specs.Adverse.{BreaksOnly, Witness, Says, sample, witnesses, no_entry, entry, next_rows}
use Rattle.model.specs.Columns.{Cells, columns, cells_in, widths, row_in, row_at, table, bytes_of}
use Rattle.model.specs.Constraints.{last_ct, in_use, equal, stays, grows, constraints, constraint, first_or, first_broken}
use Rattle.model.specs.Constraints.{k1, k2, k3, k4, k5, k6, k7, k8, k9, k10, k11, k12, k13, first_or}
use Rattle.model.specs.Constraints.{k14, k15, k16, k17, k18, k19, k20, k21, k22, k23, k24, k25, k26, first_or}
use Rattle.model.specs.Cycles.{Looked, cycles_from, starts, count, empty_rows, counts, look, last_state, step}
use Rattle.model.specs.Promises.{constraint_count, Holds}
use Rattle.model.specs.State.{same_context, put}
use Rattle.model.specs.Steps.{stamp_moves, ct_moves}
use Rattle.model.specs.Tests.{pick, is_difference, sums_up}
use Rattle.model.specs.Trace.{in_bounds, last_of, apart, above, last_word, last_byte, square, reach, in_row, beyond_end, out_row}
use Rattle.model.specs.Trace.{row_of, cycle_of, after, cycles_of, trace, trace_bytes}
use Rattle.model.specs.Verdict.{passed, before, view, broken_at, Judgement, meet, break, judged, judged_rows, max_rows}
use Rattle.model.proofs.RowBytes.{AllFit}
use Rattle.model.proofs.TableOf.{below, below_at}
use Rattle.model.proofs.TestFacts.{all_at}

-- ---- judgements

same : Judgement → Judgement → Bool
same meet meet = true
same meet (break i k) = false
same (break i k) meet = false
same (break i k) (break j m) = eqb i j && eqb k m

same_path : (c d : Judgement) → T (same c d) → c ≡ d
unfolding same
same_path meet meet t = refl
same_path meet (break i k) t = absurd t
same_path (break i k) meet t = absurd t
same_path (break i k) (break j m) t =
    ap₂ break (eqb→eq i j (and_left (eqb i j) (eqb k m) t)) (eqb→eq k m (and_right (eqb i j) (eqb k m) t))

-- it names constraint k
names : ℕ → Judgement → Bool
names k meet = false
names k (break i m) = eqb m k

names_path : (k : ℕ) (d : Judgement) → T (names k d) → (i : ℕ) × (d ≡ break i k)
unfolding names
names_path k meet t = absurd t
names_path k (break i m) t = (i, ap (break i) (eqb→eq m k t))

-- ---- cells that fit their columns

fits : List ℕ → List ℕ → Bool
fits [] [] = true
fits [] (v ∷ vs) = false
fits (w ∷ ws) [] = false
fits (w ∷ ws) (v ∷ vs) = ltb v (256 ^ w) && fits ws vs

fits_fit : (ws vs : List ℕ) → T (fits ws vs) → Fit ws vs
unfolding fits Fit
fits_fit [] [] t = tt
fits_fit [] (v ∷ vs) t = t
fits_fit (w ∷ ws) [] t = t
fits_fit (w ∷ ws) (v ∷ vs) t =
    (ltb→lt v (256 ^ w) (and_left (ltb v (256 ^ w)) (fits ws vs) t), fits_fit ws vs (and_right (ltb v (256 ^ w)) (fits ws vs) t))

row_fits : Cells → Bool
row_fits x = fits widths (cells_in columns x)

all_fit_lem : (xs : List Cells) → T (every row_fits xs) → AllFit xs
unfolding row_fits
all_fit_lem [] t = tt
all_fit_lem (x ∷ xs) t =
    (fits_fit widths (cells_in columns x) (and_left (row_fits x) (every row_fits xs) t), all_fit_lem xs (and_right (row_fits x) (every row_fits xs) t))

-- ---- constraints that hold

module _ (k : ℕ) (xs : List Cells) where
  -- whether row i meets each constraint, where that at place k, number k + 1, is passed over
  abbrev others : ℕ → List Bool
  others i = set (constraints (view (row_in xs) (length xs) i)) k true

  others_met : ℕ → Bool
  others_met i = every (λ (t : Bool). t) (others i)

  others_hold : T (every others_met (below (length xs))) → (i m : ℕ) → i < length xs → m ≢ suc k → Holds (row_in xs) (length xs) i m
  unfolding others_met constraint
  others_hold t i zero h d = refl
  others_hold t i (suc m) h d =
      sym (get_or-set_other (constraints (view (row_in xs) (length xs) i)) k m true true (λ e. d (ap suc e)))
      ∙ all_at (others i) (is_true (others_met i) (below_at others_met (length xs) t i h)) m

-- ---- the table

judged_right : Witness → Bool
judged_right w = same (judged_rows w.shown) w.judgement

-- as many rows as a trace may have
has_size : Witness → Bool
has_size w = ltb 0 (length w.shown) && leb (length w.shown) max_rows

all_fit : Witness → Bool
all_fit w = every row_fits w.shown

-- the place of the first entry whose judgement names constraint k
find : ℕ → List Witness → ℕ
find k [] = 0
find k (w ∷ ws) = pick (names k w.judgement) 0 (suc (find k ws))

-- that for the constraint at place k, number k + 1
abbrev found : ℕ → ℕ
found k = find (suc k) witnesses

-- there is such an entry
is_found : ℕ → Bool
is_found k = ltb (found k) (length witnesses) && names (suc k) (entry (found k)).judgement

-- and its rows break no other constraint
broken_alone : ℕ → Bool
broken_alone k = every (others_met k (entry (found k)).shown) (below (length (entry (found k)).shown))

-- what the kernel computes
record Computed : Type 0 where
  judged : T (every judged_right witnesses)
  sized : T (every has_size witnesses)
  fit : T (every all_fit witnesses)
  found : T (every is_found (below constraint_count))
  alone : T (every broken_alone (below constraint_count))

computed : Computed
unfolding same names fits row_fits others_met judged_right has_size all_fit find is_found broken_alone
    prefix_at digit_at words cost split joined table last_ct in_use equal stays grows first_or first_broken
    k1 k2 k3 k4 k5 k6 k7 k8 k9 k10 k11 k12 k13 k14 k15 k16 k17 k18 k19 k20 k21 k22 k23 k24 k25 k26
    same_context put stamp_moves ct_moves is_difference sums_up in_bounds last_of apart above last_word last_byte square reach in_row beyond_end out_row
    row_of cycle_of after cycles_of trace passed before broken_at judged
computed = record { judged = tt; sized = tt; fit = tt; found = tt; alone = tt }

-- each entry is judged as it says
pub witnesses_hold : (k : ℕ) → k < length witnesses → Says (entry k)
unfolding judged_right
witnesses_hold k h = same_path (judged_rows (entry k).shown) (entry k).judgement (every_at judged_right witnesses computed.judged k no_entry h)

-- and its cells fit their columns, so that bytes can hold it
pub witnesses_fit : (k : ℕ) → k < length witnesses → AllFit (entry k).shown
unfolding all_fit
witnesses_fit k h = all_fit_lem (entry k).shown (every_at all_fit witnesses computed.fit k no_entry h)

-- and it has as many rows as a trace may have
pub witnesses_sized : (k : ℕ) → k < length witnesses → (0 < length (entry k).shown) × (length (entry k).shown ≤ max_rows)
unfolding has_size
witnesses_sized k h =
    let m : ℕ = length (entry k).shown in
    let t = every_at has_size witnesses computed.sized k no_entry h in
    (ltb→lt 0 m (and_left (ltb 0 m) (leb m max_rows) t), leb→le m max_rows (and_right (ltb 0 m) (leb m max_rows) t))

-- each constraint is broken alone by some entry, so none of them can be left out
pub each_alone : (k : ℕ) → 1 ≤ k → k ≤ constraint_count → (n : ℕ) × (n < length witnesses) × BreaksOnly k (entry n).shown
unfolding is_found broken_alone
each_alone zero a b = absurd (not-suc-le-zero a)
each_alone (suc k) a b =
    let n : ℕ = found k in
    let is : T (is_found k) = below_at is_found constraint_count computed.found k b in
    let named : Bool = names (suc k) (entry n).judgement in
    let l = ltb→lt n (length witnesses) (and_left (ltb n (length witnesses)) named is) in
    let (i, e) = names_path (suc k) (entry n).judgement (and_right (ltb n (length witnesses)) named is) in
    let others = others_hold k (entry n).shown (below_at broken_alone constraint_count computed.alone k b) in
    (n, l, record { row = i; breaks = witnesses_hold n l ∙ e; others = others })

-- ---- document 01's sample

-- rows=33
pub sample_rows : length (trace 1 sample) ≡ 33
unfolding trace cycles_of cycle_of table last_of in_bounds
sample_rows = refl

-- of 114 bytes each
pub sample_bytes : length (trace_bytes 1 sample) ≡ 3762
unfolding trace_bytes bytes_of encode be trace cycles_of cycle_of table last_of in_bounds
sample_bytes = refl

-- instructions=6 oob=1, after one empty row
pub sample-counts : counts (trace 1 sample) ≡ record { instructions = 6; oob = 1; empty = 1 }
unfolding counts empty_rows count cycles_from starts in_use trace cycles_of cycle_of table last_of in_bounds row_of in_row out_row
sample-counts = refl

abbrev state_at : (mem cost cycles : ℕ) → Looked
state_at mem cost cycles = record { state = record { mem = mem; cost = cost }; cycles = cycles }

abbrev asked : ℕ → Looked
asked cn = last_state (trace 1 sample) (record { cn = cn })

-- the last state of context 1 is that of the third instruction from the end, of context 2 that of the last, and a context that is not there is
-- looked for in all six
pub sample_last : (asked 1 ≡ state_at 705 70 3) × (asked 2 ≡ state_at 64 6 1) × (asked 3 ≡ state_at 0 0 6)
unfolding last_state look same_context cycles_from starts in_use trace cycles_of cycle_of table last_of in_bounds row_of in_row out_row
    reach put after words cost
sample_last = (refl, refl, refl)

-- a walker over its bytes goes from the row after the empty one by 3 rows, and by 17 at the last instruction; then it stays
pub sample_steps : next_rows 7 (trace_bytes 1 sample) 1 ≡ 4 ∷ 7 ∷ 10 ∷ 13 ∷ 16 ∷ 33 ∷ 33 ∷ []
unfolding step row_at decode num last_ct trace_bytes bytes_of encode be trace cycles_of cycle_of table last_of in_bounds row_of in_row out_row
sample_steps = refl
