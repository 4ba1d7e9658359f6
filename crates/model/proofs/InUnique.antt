-- The rows of an in-bounds cycle that meets the constraints are those of its claim.
use Prim.Native.Nat.{ℕ, zero, suc, ◌+◌, ◌*◌, ◌-◌, ◌/◌, ◌%◌, ◌^◌, ◌<◌, ◌≤◌, max}
use mathlib.Core.Bool.{Bool, true, false}
use mathlib.Core.Path.{◌≡◌, sym, ◌∙◌, ap}
use native.Mathlib.Omega.{arith}
use borrow.Author.Tests.{le-leb, lt-leb, lt-ltb, le-ltb}
use lib.Dec.{eqb, leb, ltb}
use Rattle.number.specs.Sums.{prefix_at, digit_at}
use Rattle.number.specs.Whole.{bound}
use Rattle.number.proofs.SumLaws.{prefix_zero, digit-zero}
use Rattle.number.proofs.TestLaws.{both_intro}
use Rattle.gas.specs.Gas.{word_bytes, Parts, joined, words, split}
use Rattle.gas.proofs.GasLaws.{cost-split, split_unique}
use Rattle.model.specs.Columns.{Cells}
use Rattle.model.specs.Constraints.{in_last, within, aux_lift, View, quotients}
use Rattle.model.specs.Constraints.{k10, k11, k12, k13}
use Rattle.model.specs.Cycles.{claim_of}
use Rattle.model.specs.Tests.{pick, bit, zeros, is_difference, sums_up}
use Rattle.model.specs.Trace.{in_bounds, top, apart, above, last_word, last_byte, square, in_rows, reach, in_row, row_of}
use Rattle.model.proofs.ConstraintFacts.{Stayed, Grown, Divided}
use Rattle.model.proofs.ConstraintFacts.{says14, says15, says16, says17, says18, says19, says20, says21_22, says23}
use Rattle.model.proofs.CycleRows.{Rows, state_in, as_last, as_first, narrow_at, met10, sum_fits, pinned}
use Rattle.model.proofs.RowFacts.{Narrow, of_within}
use Rattle.model.proofs.TestFacts.{zeros_at, difference}

-- ---- the arithmetic, over plain numbers

-- the bit, the difference and the greater end of a comparison
record Compared (c d a b t : ℕ) : Type 0 where
  comp : c ≡ bit (leb b a)
  apart : d ≡ apart (leb b a) a b
  top : t ≡ max a b

compared : (c d a b t : ℕ) → c ≤ 1 → t ≡ pick (eqb c 1) a b
    → pick (eqb c 1) (is_difference d a b) (is_difference d b (a + 1)) ≡ true → Compared c d a b t
unfolding apart
compared zero d a b t h e k =
    let q : d + (a + 1) ≡ b = difference d b (a + 1) k in
    let w : leb b a ≡ false = lt-leb b a (omega arith) in
    record { comp = rw w; apart = rw w (omega arith); top = omega arith }
compared (suc zero) d a b t h e k =
    let q : d + b ≡ a = difference d a b k in
    let w : leb b a ≡ true = le-leb b a (omega arith) in
    record { comp = rw w; apart = rw w (omega arith); top = omega arith }
compared (suc (suc c)) d a b t h e k = absurd (omega arith)

-- the bit and the difference of the greater end and the bytes reached before
record Reached (f d t m : ℕ) : Type 0 where
  flag : f ≡ bit (ltb m t)
  above : d ≡ above (ltb m t) t m

reached : (f d t m : ℕ) → f ≤ 1 → pick (eqb f 1) (is_difference d t (m + 1)) (is_difference d m t) ≡ true → Reached f d t m
unfolding above
reached zero d t m h k =
    let q : d + t ≡ m = difference d m t k in
    let w : ltb m t ≡ false = le-ltb m t (omega arith) in
    record { flag = rw w; above = rw w (omega arith) }
reached (suc zero) d t m h k =
    let q : d + (m + 1) ≡ t = difference d t (m + 1) k in
    let w : ltb m t ≡ true = lt-ltb m t (omega arith) in
    record { flag = rw w; above = rw w (omega arith) }
reached (suc (suc f)) d t m h k = absurd (omega arith)

-- the cells that turn on whether the memory grows, in the rows a, b, x of a cycle with the greater end t
record Turned (grown : Bool) (t : ℕ) (a b x : Cells) : Type 0 where
  q1 : x.q1 ≡ last_word grown t
  q1acc : x.q1acc ≡ last_word grown t
  q2 : x.q2 ≡ (square grown t).q2
  q2acc : x.q2acc ≡ (square grown t).q2 % 256 ^ 3
  memn : x.memn ≡ (reach grown t (state_in x)).mem
  costn : x.costn ≡ (reach grown t (state_in x)).cost
  gas : x.gas ≡ (reach grown t (state_in x)).cost - x.cost
  rest0 : a.aux1 ≡ 0
  rest1 : b.aux1 ≡ pick grown (last_byte grown t + aux_lift) 0
  rest2 : x.aux1 ≡ last_byte grown t
  part0 : a.aux2 ≡ (square grown t).e
  part1 : b.aux2 ≡ (square grown t).q2 / 256 ^ 3
  part2 : x.aux2 ≡ (square grown t).low

-- the word and the byte in it are the quotient and the remainder
word_unique : (t q r l : ℕ) → word_bytes * q + r + 1 ≡ t → l ≡ r + aux_lift → l < 256
    → (q ≡ (t - 1) / word_bytes) × (r ≡ (t - 1) % word_bytes) × (1 + q ≡ words t)
unfolding words
word_unique t q r l e f h = omega arith

high_unique : (q a u : ℕ) → q ≡ a + 256 ^ 3 * u → a < 256 ^ 3 → (u ≡ q / 256 ^ 3) × (a ≡ q % 256 ^ 3)
high_unique q a u e h = omega arith

square_of : (q t : ℕ) (p : Parts) → 1 + q ≡ words t → (1 + q) * (1 + q) ≡ joined p → joined p ≡ words t * words t
square_of q t p e h = sym h ∙ ap (λ (a : ℕ). a * a) e

-- where FLAG=1
turned_true : (t : ℕ) (a b x : Cells) → x.endmax ≡ t → b.aux1 < 256 → x.aux2 < 256 → x.q2acc < 256 ^ 3
    → Grown x → Divided a b x → a.aux1 ≡ 0 → Turned true t a b x
unfolding last_word last_byte square reach
turned_true t a b x et l1 l2 l3 g d f =
    let w = word_unique t x.q1 x.aux1 b.aux1 (d.word ∙ et) d.lift l1 in
    let p : Parts = record { q2 = x.q2; e = a.aux2; low = x.aux2 } in
    let u : p ≡ split (words t) = split_unique (words t) p (record { bit = d.e; byte = l2 }) (square_of x.q1 t p w.2 d.square) in
    let q : x.q2 ≡ (split (words t)).q2 = ap (λ (p : Parts). p.q2) u in
    let h = high_unique x.q2 x.q2acc b.aux2 d.q2 l3 in
    record {
      q1 = w.0;
      q1acc = d.q1 ∙ w.0;
      q2 = q;
      q2acc = h.1 ∙ ap (λ (n : ℕ). n % 256 ^ 3) q;
      memn = g.memn ∙ et;
      costn = g.costn ∙ omega (arith, w.2, q, cost-split (words t));
      gas = omega (arith, g.gas, g.costn, w.2, q, cost-split (words t));
      rest0 = f;
      rest1 = d.lift ∙ ap (λ (n : ℕ). n + aux_lift) w.1;
      rest2 = w.1;
      part0 = ap (λ (p : Parts). p.e) u;
      part1 = h.0 ∙ ap (λ (n : ℕ). n / 256 ^ 3) q;
      part2 = ap (λ (p : Parts). p.low) u;
    }

-- where FLAG=0
turned_false : (t : ℕ) (a b x : Cells) → Stayed x
    → zeros (quotients a) ≡ true → zeros (quotients b) ≡ true → zeros (quotients x) ≡ true → Turned false t a b x
unfolding last_word last_byte square reach
turned_false t a b x g ua ub ux =
    let za = zeros_at (quotients a) ua in
    let zb = zeros_at (quotients b) ub in
    let zx = zeros_at (quotients x) ux in
    record {
      q1 = zx 0;
      q1acc = zx 2;
      q2 = zx 3;
      q2acc = zx 5;
      memn = g.memn;
      costn = g.costn;
      gas = omega (arith, g.gas);
      rest0 = za 6;
      rest1 = zb 6;
      rest2 = zx 6;
      part0 = za 7;
      part1 = zb 7;
      part2 = zx 7;
    }

in_rows_lem : (f : ℕ → ℕ) (a b c : ℕ) → f 0 ≡ a → f 1 ≡ b → f 2 ≡ c → (i : ℕ) → i ≤ in_last → f i ≡ in_rows a b c i
in_rows_lem f a b c p q r zero h = p
in_rows_lem f a b c p q r (suc zero) h = q
in_rows_lem f a b c p q r (suc (suc zero)) h = r
in_rows_lem f a b c p q r (suc (suc (suc i))) h = absurd (omega arith)

-- ---- the rows

module _ (v : ℕ → View) (rows : Rows in_last 0 v) where
  abbrev row : ℕ → Cells
  row i = (v i).this

  -- the last row, and the greater end that it shows
  abbrev z : Cells
  z = row in_last

  abbrev t : ℕ
  t = top (claim_of z)

  last_in : in_last ≤ in_last
  last_in = omega arith

  -- a constraint of 11 to 23, at row i
  met : {k : Bool} (i : ℕ) → i ≤ in_last → within (row i) k ≡ true → k ≡ true
  met {k} i h e = of_within (row i) (rows.used i h) (rows.ooob i h) k e

  met11 : (i : ℕ) → i ≤ in_last → k11 (v i).one (row i) ≡ true
  met11 i h = met i h (rows.each i h 10)

  met12 : (i : ℕ) → i ≤ in_last → k12 (v i).one (row i) ≡ true
  met12 i h = met i h (rows.each i h 11)

  met13 : (i : ℕ) → i ≤ in_last → k13 (v i).one (row i) ≡ true
  met13 i h = met i h (rows.each i h 12)

  at_last : z.ct ≡ in_last
  at_last = rows.ct in_last last_in

  small : (i : ℕ) → i ≤ in_last → Narrow (row i)
  small = narrow_at in_last 0 v rows

  flag_at : (f : ℕ) → z.flag ≡ f → (i : ℕ) → i ≤ in_last → (row i).flag ≡ f
  flag_at f e i h = as_last in_last 0 v rows i h 10 ∙ e

  ends : (z.acc1 ≡ z.end1) × (z.acc2 ≡ z.end2)
  ends = says18 z (met in_last last_in (rows.each in_last last_in 17)) at_last

  bits : (z.comp ≤ 1) × (z.flag ≤ 1)
  bits = says15 z (met in_last last_in (rows.each in_last last_in 14))

  comparison : Compared z.comp z.dacc z.end1 z.end2 z.endmax
  comparison =
      compared z.comp z.dacc z.end1 z.end2 z.endmax bits.0
      (says16 z (met in_last last_in (rows.each in_last last_in 15)))
      (says19 z (met in_last last_in (rows.each in_last last_in 18)) at_last)

  growth : Reached z.flag z.eacc t z.mem
  growth =
      rw comparison.top at (reached z.flag z.eacc z.endmax z.mem bits.1
      (says20 z (met in_last last_in (rows.each in_last last_in 19)) at_last))

  abbrev grown : Bool
  grown = ltb z.mem t

  fact17 : (z.flag ≡ 0 → Stayed z) × (z.flag ≡ 1 → Grown z)
  fact17 = says17 z (met in_last last_in (rows.each in_last last_in 16))

  fact23 : (i : ℕ) → i ≤ in_last → ((row i).flag ≡ 0 → zeros (quotients (row i)) ≡ true) × ((row i).flag ≡ 1 → (row i).ct ≡ 0 → (row i).aux1 ≡ 0)
  fact23 i h = says23 (row i) (met i h (rows.each i h 22))

  -- where FLAG=1
  module _ (f : z.flag ≡ 1) where
    fact14 : (i : ℕ) (h : i ≤ in_last) → (sums_up (row i).ct (v i).one.q1acc (row i).q1byte (row i).q1acc ≡ true)
        × (sums_up (row i).ct (v i).one.q2acc (row i).q2byte (row i).q2acc ≡ true)
    fact14 i h = says14 (v i).one (row i) (met i h (rows.each i h 13)) (flag_at 1 f i h)

    divided : Divided (row 0) (row 1) z
    divided =
        let a : Cells = (v in_last).two in
        let b : Cells = (v in_last).one in
        rw (rows.two 0 (omega arith), rows.one 1 (omega arith)) at (says21_22 a b z
        (met in_last last_in (rows.each in_last last_in 20)) (met in_last last_in (rows.each in_last last_in 21)) at_last f)

    q2_fits : z.q2acc < 256 ^ 3
    q2_fits = sum_fits in_last 0 v rows (λ x. x.q2byte) (λ x. x.q2acc) (λ i h. (small i h).q2byte) (λ i h. (fact14 i h).1)

    turned_grown : Turned true t (row 0) (row 1) z
    turned_grown =
        let first : 0 ≤ in_last = omega arith in
        turned_true t (row 0) (row 1) z comparison.top (small 1 (omega arith)).aux1 (small in_last last_in).aux2 q2_fits
        (fact17.1 f) divided ((fact23 0 first).1 (flag_at 1 f 0 first) (rows.ct 0 first))

  -- where FLAG=0
  module _ (f : z.flag ≡ 0) where
    unused : (i : ℕ) → i ≤ in_last → zeros (quotients (row i)) ≡ true
    unused i h = (fact23 i h).0 (flag_at 0 f i h)

    turned_stayed : Turned false t (row 0) (row 1) z
    turned_stayed =
        turned_false t (row 0) (row 1) z (fact17.0 f) (unused 0 (omega arith)) (unused 1 (omega arith)) (unused in_last last_in)

  -- the bytes of the words and of their square in row i
  record Quotients (g : Bool) (i : ℕ) : Type 0 where
    q1 : ((row i).q1byte ≡ digit_at in_last (last_word g t) i) × ((row i).q1acc ≡ prefix_at in_last (last_word g t) i)
    q2 : ((row i).q2byte ≡ digit_at in_last ((square g t).q2 % 256 ^ 3) i) × ((row i).q2acc ≡ prefix_at in_last ((square g t).q2 % 256 ^ 3) i)

  -- by the flag
  turned_by : (g : Bool) → z.flag ≡ bit g → Turned g t (row 0) (row 1) z
  turned_by true f = turned_grown f
  turned_by false f = turned_stayed f

  quotients-by : (g : Bool) → z.flag ≡ bit g → (i : ℕ) → i ≤ in_last → Quotients g i
  unfolding last_word square
  quotients-by true f i h = record {
    q1 = pinned in_last 0 v rows (λ x. x.q1byte) (λ x. x.q1acc) (λ i h. (small i h).q1byte) (λ i h. (fact14 f i h).0)
        (turned_grown f).q1acc i h;
    q2 = pinned in_last 0 v rows (λ x. x.q2byte) (λ x. x.q2acc) (λ i h. (small i h).q2byte) (λ i h. (fact14 f i h).1)
        (turned_grown f).q2acc i h;
  }
  quotients-by false f i h =
      let w = zeros_at (quotients (row i)) (unused f i h) in
      let digit : 0 ≡ digit_at in_last 0 i = sym (digit-zero in_last i) in
      let prefix : 0 ≡ prefix_at in_last 0 i = sym (prefix_zero in_last i) in
      record { q1 = (w 1 ∙ digit, w 2 ∙ prefix); q2 = (w 4 ∙ digit, w 5 ∙ prefix) }

  -- the rows of the cycle are those that the definition gives for what its last row shows
  rows_are : (i : ℕ) → i ≤ in_last → row i ≡ in_row (leb z.end2 z.end1) grown (row 0).stamp (state_in z) (claim_of z) i
  unfolding in_row k10 k11 k12 k13
  rows_are i h =
      let same = as_last in_last 0 v rows i h in
      let c = comparison in
      let u = turned_by grown growth.flag in
      let q = quotients-by grown growth.flag i h in
      let one = pinned in_last 0 v rows (λ x. x.byte1) (λ x. x.acc1) (λ i h. (small i h).byte1) (met10 in_last 0 v rows) ends.0 i h in
      let two = pinned in_last 0 v rows (λ x. x.byte2) (λ x. x.acc2) (λ i h. (small i h).byte2) met11 ends.1 i h in
      let d = pinned in_last 0 v rows (λ x. x.dbyte) (λ x. x.dacc) (λ i h. (small i h).dbyte) met12 c.apart i h in
      let e = pinned in_last 0 v rows (λ x. x.ebyte) (λ x. x.eacc) (λ i h. (small i h).ebyte) met13 growth.above i h in
      λ j. record {
        stamp = rows.stamp i h j;
        cn = same 0 j;
        ooob = rows.ooob i h j;
        ct = rows.ct i h j;
        end1 = same 1 j;
        end2 = same 2 j;
        byte1 = one.0 j;
        byte2 = two.0 j;
        acc1 = one.1 j;
        acc2 = two.1 j;
        mem = same 3 j;
        memn = (same 4 ∙ u.memn) j;
        cost = same 5 j;
        costn = (same 6 ∙ u.costn) j;
        gas = (same 7 ∙ u.gas) j;
        comp = (same 8 ∙ c.comp) j;
        dbyte = d.0 j;
        dacc = d.1 j;
        endmax = (same 9 ∙ c.top) j;
        flag = (same 10 ∙ growth.flag) j;
        ebyte = e.0 j;
        eacc = e.1 j;
        q1 = (same 11 ∙ u.q1) j;
        q1byte = q.q1.0 j;
        q1acc = q.q1.1 j;
        q2 = (same 12 ∙ u.q2) j;
        q2byte = q.q2.0 j;
        q2acc = q.q2.1 j;
        aux1 = in_rows_lem (λ i. (row i).aux1) _ _ _ u.rest0 u.rest1 u.rest2 i h j;
        aux2 = in_rows_lem (λ i. (row i).aux2) _ _ _ u.part0 u.part1 u.part2 i h j;
      }

  in_bounds_lem : in_bounds (claim_of z) ≡ true
  unfolding in_bounds k10 k11
  in_bounds_lem =
      let one : z.acc1 < 256 ^ 3 = sum_fits in_last 0 v rows (λ x. x.byte1) (λ x. x.acc1) (λ i h. (small i h).byte1) (met10 in_last 0 v rows) in
      let two : z.acc2 < 256 ^ 3 = sum_fits in_last 0 v rows (λ x. x.byte2) (λ x. x.acc2) (λ i h. (small i h).byte2) met11 in
      both_intro (ltb z.end1 bound) (ltb z.end2 bound)
      (lt-ltb z.end1 bound (omega (arith, ends.0))) (lt-ltb z.end2 bound (omega (arith, ends.1)))

  -- the claim that the first row shows is in bounds
  pub in_claim : in_bounds (claim_of (row 0)) ≡ true
  in_claim = as_first in_last 0 v rows (λ s c. in_bounds c ≡ true) in_bounds_lem

  -- and the rows are those of that claim, at the state before it that the first row shows
  pub in_unique : (i : ℕ) → i ≤ in_last → row i ≡ row_of (row 0).stamp (state_in (row 0)) (claim_of (row 0)) i
  unfolding row_of
  in_unique i h =
      rw in_claim (as_first in_last 0 v rows
      (λ s c. row i ≡ in_row (leb c.end2 c.end1) (ltb s.mem (top c)) (row 0).stamp s c i) (rows_are i h))
