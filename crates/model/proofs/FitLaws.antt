-- Each cell of the trace of valid claims fits its column.
use Prim.Native.Nat.{ℕ, zero, suc, ◌+◌, ◌-◌, ◌/◌, ◌^◌, ◌<◌, ◌≤◌, zero-le, suc-le-suc}
use mathlib.Core.Bool.{Bool, true, false}
use mathlib.Core.List.{List, [], ◌∷◌, ◌++◌, map}
use mathlib.Core.Path.{◌≡◌}
use native.Mathlib.Nat.{div-le_self, le_of_suc-le-suc, lt_of_le_of_lt, mul-le-mul, one-le-pow, sub-le}
use native.Mathlib.Omega.{arith}
use lib.Dec.{leb, ltb}
use lib.ListN.{length, replicate}
use Rattle.number.specs.Cells.{Fit}
use Rattle.number.specs.Sums.{prefix_at}
use Rattle.number.specs.Whole.{bound}
use Rattle.number.proofs.SumLaws.{digit_lt}
use Rattle.gas.specs.Gas.{word_bytes, InRange, words, cost}
use Rattle.gas.proofs.GasLaws.{cost-split, split_in_range}
use Rattle.model.specs.Columns.{Cells, Column, columns, from_comp, cells_in, widths, empty_row, table}
use Rattle.model.specs.Constraints.{in_last, out_last}
use Rattle.model.specs.Cycles.{Claim}
use Rattle.model.specs.Promises.{ValidClaim, Valid}
use Rattle.model.specs.State.{Context, State, Sound, fresh}
use Rattle.model.specs.Tests.{pick}
use Rattle.model.specs.Trace.{in_bounds, last_of, top, apart, above, last_word, last_byte, square, in_rows, reach, in_row}
use Rattle.model.specs.Trace.{beyond_end, out_row, row_of, cycle_of, after, after_claim, cycles_of, trace}
use Rattle.model.proofs.RowBytes.{AllFit}
use Rattle.model.proofs.StateLaws.{AllSound, top_lt, sound_after, all_sound_fresh, all_sound_after}
use Rattle.model.proofs.TestFacts.{pick_has}

-- ---- the numbers of a row

pick-lt : (b : Bool) {x y n : ℕ} → x < n → y < n → pick b x y < n
pick-lt b {n = n} p q = pick_has (λ x. x < n) b (λ e. p) (λ e. q)

in_rows_lt : (i : ℕ) {a b c n : ℕ} → a < n → b < n → c < n → in_rows a b c i < n
in_rows_lt zero p q r = p
in_rows_lt (suc zero) p q r = q
in_rows_lt (suc (suc i)) p q r = r

prefix_lt : (m i : ℕ) {v n : ℕ} → v < n → prefix_at m v i < n
unfolding prefix_at
prefix_lt m i {v} h = lt_of_le_of_lt (div-le_self v (256 ^ (m - i))) h

cost-lt : (t : ℕ) → t < bound → cost (words t) < 256 ^ 4
unfolding cost words
cost-lt t h =
    let w : (t + (word_bytes - 1)) / word_bytes ≤ 2 ^ 19 = omega arith in
    omega (arith, mul-le-mul w w)

-- what a sound state has paid fits 4 bytes
pub paid_lt : {s : State} → Sound s → s.cost < 256 ^ 4
paid_lt {s} k = omega (arith, cost-lt s.mem k.mem)

-- the numbers of an in-bounds cycle, whatever its two comparisons answer
pub apart-lt : (at_least : Bool) {a b n : ℕ} → a < n → b < n → apart at_least a b < n
unfolding apart
apart-lt at_least p q = pick-lt at_least (omega arith) (omega arith)

-- how far the greater end is above the bytes reached
pub above-lt : (grown : Bool) {t m n : ℕ} → t < n → m < n → above grown t m < n
unfolding above
above-lt grown p q = pick-lt grown (omega arith) (omega arith)

-- its last word, counted from 0
pub last_word_lt : (grown : Bool) {t n : ℕ} → t < n → last_word grown t < n
unfolding last_word
last_word_lt grown h = pick-lt grown (omega arith) (omega arith)

last_byte_lt : (grown : Bool) (t : ℕ) → last_byte grown t < word_bytes
unfolding last_byte
last_byte_lt grown t = pick-lt grown (omega arith) (omega arith)

-- Q2 of the square of its words
pub square-lt : (grown : Bool) (t : ℕ) → t < bound → (square grown t).q2 < 256 ^ 4
unfolding square
square-lt true t h = omega (arith, cost-split (words t), cost-lt t h)
square-lt false t h = omega arith

square_in_range : (grown : Bool) (t : ℕ) → InRange (square grown t)
unfolding square
square_in_range true t = split_in_range (words t)
square_in_range false t = omega arith

-- how far an end is beyond the bound
pub beyond-lt : (c : Claim) → ValidClaim c → beyond_end c - bound < 256 ^ 17
unfolding beyond_end
beyond-lt c v = lt_of_le_of_lt (sub-le _ bound) (pick-lt (leb bound c.end1) v.end1 v.end2)

-- ---- a row

-- one cell after the other
infixr 40 ◌&◌
◌&◌ : {A B : Type 0} → A → B → A × B
◌&◌ p q = (p, q)

zeros_fit : (ws : List ℕ) → Fit ws (map (λ w. 0) ws)
unfolding Fit
zeros_fit [] = tt
zeros_fit (w ∷ ws) = (one-le-pow w 256 (omega arith), zeros_fit ws)

-- the state that an in-bounds claim leaves, by its comparison alone, is sound
pub sound_reached : (s : State) (c : Claim) → in_bounds c ≡ true → Sound s → Sound (reach (ltb s.mem (top c)) (top c) s)
unfolding after
sound_reached s c e k = rw e at (sound_after s c k)

module _ (stamp : ℕ) (s : State) (c : Claim) (i : ℕ) (z : stamp < 256 ^ 4) (k : Sound s) (v : ValidClaim c) where
  -- whatever the two comparisons answer, if the state that it leaves is sound
  in_row_fits : (at_least grown : Bool) → in_bounds c ≡ true → Sound (reach grown (top c) s) → i ≤ in_last
      → Fit widths (cells_in columns (in_row at_least grown stamp s c i))
  unfolding Fit in_row
  in_row_fits at_least grown b n h =
      let t = top_lt c b in
      let pays = paid_lt n in
      let q2 = square-lt grown (top c) t in
      let p = square_in_range grown (top c) in
      let rest = last_byte_lt grown (top c) in
      z & v.cn & omega arith & omega arith & v.end1 & v.end2
      & digit_lt in_last _ i & digit_lt in_last _ i & prefix_lt in_last i v.end1 & prefix_lt in_last i (omega arith)
      & k.mem & n.mem & paid_lt k & pays & omega arith
      & pick-lt at_least (omega arith) (omega arith) & digit_lt in_last _ i & prefix_lt in_last i (apart-lt at_least (omega arith) (omega arith))
      & t & pick-lt grown (omega arith) (omega arith) & digit_lt in_last _ i & prefix_lt in_last i (above-lt grown t k.mem)
      & last_word_lt grown t & digit_lt in_last _ i & prefix_lt in_last i (last_word_lt grown t)
      & q2 & digit_lt in_last _ i & prefix_lt in_last i (omega arith)
      & in_rows_lt i (omega arith) (pick-lt grown (omega arith) (omega arith)) (omega arith)
      & in_rows_lt i (omega arith) (omega arith) (omega arith) & tt

  out_row_fits : i ≤ out_last → Fit widths (cells_in columns (out_row stamp s c i))
  unfolding Fit out_row
  out_row_fits h =
      z & v.cn & omega arith & omega arith & v.end1 & v.end2
      & digit_lt out_last _ i & omega arith & prefix_lt out_last i (beyond-lt c v) & omega arith
      & k.mem & k.mem & paid_lt k & paid_lt k & omega arith & zeros_fit (map (λ (x : Column). x.width) from_comp)

  -- each cell of a valid claim's row fits its column, at a stamp of 4 bytes and a sound state
  pub row_of_fits : i ≤ last_of c → Fit widths (cells_in columns (row_of stamp s c i))
  unfolding row_of last_of
  row_of_fits h =
      pick_has (λ x. Fit widths (cells_in columns x)) (in_bounds c)
      (λ e. in_row_fits (leb c.end2 c.end1) (ltb s.mem (top c)) e (sound_reached s c e k) (rw e at h))
      (λ e. out_row_fits (rw e at h))

-- ---- cycles and traces

fit_append : (xs ys : List Cells) → AllFit xs → AllFit ys → AllFit (xs ++ ys)
fit_append [] ys f g = g
fit_append (x ∷ xs) ys f g = (f.0, fit_append xs ys f.1 g)

fit_table : (n : ℕ) (f : ℕ → Cells) → ((i : ℕ) → i < n → Fit widths (cells_in columns (f i))) → AllFit (table n f)
unfolding table
fit_table zero f h = tt
fit_table (suc n) f h = (h 0 (suc-le-suc zero-le), fit_table n (λ i. f (suc i)) (λ i k. h (suc i) (suc-le-suc k)))

fit_empty : (n : ℕ) → AllFit (replicate n empty_row)
fit_empty zero = tt
fit_empty (suc n) = (zeros_fit widths, fit_empty n)

pub fit_cycle : (stamp : ℕ) (s : State) (c : Claim) → stamp < 256 ^ 4 → Sound s → ValidClaim c → AllFit (cycle_of stamp s c)
unfolding cycle_of
fit_cycle stamp s c z k v = fit_table (suc (last_of c)) (row_of stamp s c) (λ i h. row_of_fits stamp s c i z k v (le_of_suc-le-suc h))

fit_cycles : (stamp : ℕ) (states : Context → State) (cs : List Claim) → AllSound states → Valid cs → stamp + length cs ≤ 256 ^ 4
    → AllFit (cycles_of stamp states cs)
unfolding cycles_of
fit_cycles stamp states [] k v h = tt
fit_cycles stamp states (c ∷ cs) k v h =
    fit_append (cycle_of stamp (states c.context) c) (cycles_of (suc stamp) (after_claim states c) cs)
    (fit_cycle stamp (states c.context) c (omega arith) (k c.context) v.0)
    (fit_cycles (suc stamp) (after_claim states c) cs (all_sound_after states c k) v.1 (omega arith))

-- and each cell of the trace of valid claims, whose stamps run from 1 to their number
pub trace_fits : (n : ℕ) (cs : List Claim) → Valid cs → length cs < 256 ^ 4 → AllFit (trace n cs)
unfolding trace
trace_fits n cs v h = fit_append (replicate n empty_row) (cycles_of 1 fresh cs) (fit_empty n) (fit_cycles 1 fresh cs all_sound_fresh v (omega arith))
