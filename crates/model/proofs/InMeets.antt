-- The rows of an in-bounds claim meet constraints 10 to 23.
use Prim.Native.Nat.{ℕ, zero, suc, ◌+◌, ◌*◌, ◌-◌, ◌/◌, ◌%◌, ◌^◌, ◌<◌, ◌≤◌, max}
use mathlib.Core.Bool.{Bool, true, false, ◌&&◌}
use mathlib.Core.Path.{◌≡◌, refl, sym, ◌∙◌, ap}
use native.Mathlib.Omega.{arith}
use borrow.Author.Tests.{eqb-true, eq-eqb, le-leb, ltb-true, ltb-false, leb-true, leb-false}
use lib.Dec.{eqb, leb, ltb}
use Rattle.number.specs.Sums.{prefix_at, digit_at}
use Rattle.number.specs.Whole.{bound}
use Rattle.number.proofs.SumLaws.{prefix_last, prefix_zero, digit-zero}
use Rattle.number.proofs.TestLaws.{both}
use Rattle.gas.specs.Gas.{word_bytes, word_gas, Parts, joined, words, cost, split}
use Rattle.gas.proofs.GasLaws.{cost-split, joined-split, split_in_range}
use Rattle.model.specs.Columns.{Cells}
use Rattle.model.specs.Constraints.{in_last, aux_lift, quotients, stays, grows}
use Rattle.model.specs.Constraints.{k10, k11, k12, k13, k14, k15, k16, k17, k18, k19, k20, k21, k22, k23}
use Rattle.model.specs.Cycles.{Claim}
use Rattle.model.specs.State.{State, Sound}
use Rattle.model.specs.Tests.{pick, bit, zeros, is_difference, sums_up}
use Rattle.model.specs.Trace.{in_bounds, top, apart, above, last_word, last_byte, square, in_rows, reach, in_row}
use Rattle.model.proofs.FitLaws.{apart-lt, above-lt, last_word_lt}
use Rattle.model.proofs.RowTests.{Within, sums_met}
use Rattle.model.proofs.StateLaws.{top_lt, paid_more}
use Rattle.model.proofs.TestFacts.{implies_met, if_equal_met, ◌&◌, eqb_self, bit_le, difference_met}

-- ---- the arithmetic, over plain numbers

-- the comparison of two ends
compared_met : (t : Bool) (a b : ℕ) → leb b a ≡ t
    → (max a b ≡ pick (eqb (bit t) 1) a b) × (pick (eqb (bit t) 1) (is_difference (apart t a b) a b) (is_difference (apart t a b) b (a + 1)) ≡ true)
unfolding apart
compared_met true a b e = let l : b ≤ a = leb-true b a e in (omega arith, difference_met (a - b) a b (omega arith))
compared_met false a b e = let l : a < b = leb-false b a e in (omega arith, difference_met (b - a - 1) b (a + 1) (omega arith))

-- that of the greater end and the bytes reached before
reached_met : (g : Bool) (t m : ℕ) → ltb m t ≡ g → pick (eqb (bit g) 1) (is_difference (above g t m) t (m + 1)) (is_difference (above g t m) m t) ≡ true
unfolding above
reached_met true t m e = let l : m < t = ltb-true m t e in difference_met (t - m - 1) t (m + 1) (omega arith)
reached_met false t m e = let l : t ≤ m = ltb-false m t e in difference_met (m - t) m t (omega arith)

-- an end above 0 reaches one word more than the words before its last
last_words : (t : ℕ) → 0 < t → (1 + (t - 1) / word_bytes ≡ words t) × (word_bytes * ((t - 1) / word_bytes) + (t - 1) % word_bytes + 1 ≡ t)
unfolding words
last_words t h = omega arith

in_rows_zero : (i : ℕ) → in_rows 0 0 0 i ≡ 0
in_rows_zero zero = refl
in_rows_zero (suc zero) = refl
in_rows_zero (suc (suc i)) = refl

module _ (stamp : ℕ) (s : State) (c : Claim) (sound : Sound s) (inside : in_bounds c ≡ true) where
  abbrev t : ℕ
  t = top c

  abbrev at_least : Bool
  at_least = leb c.end2 c.end1

  abbrev grown : Bool
  grown = ltb s.mem t

  abbrev row : ℕ → Cells
  row i = in_row at_least grown stamp s c i

  below : t < bound
  below = top_lt c inside

  module _ (i : ℕ) (l : i ≤ in_last) (a b : Cells) (one : (j : ℕ) → i ≡ suc j → b ≡ row j) (two : (j : ℕ) → i ≡ suc (suc j) → a ≡ row j) where
    -- 10 to 14: a column y shows the sums of the bytes of v
    sums : (y : Cells → ℕ) (v : ℕ) → v < 256 ^ suc in_last → ((j : ℕ) → y (row j) ≡ prefix_at in_last v j)
        → sums_up i (y b) (digit_at in_last v i) (prefix_at in_last v i) ≡ true
    sums y v h e = sums_met in_last v h i (y b) l (λ j z. ap y (one j z) ∙ e j)

    pub in10 : k10 b (row i) ≡ true
    unfolding k10 in_row
    in10 = sums (λ x. x.acc1) c.end1 (omega (arith, below)) (λ j. refl)

    in11 : k11 b (row i) ≡ true
    unfolding k11 in_row
    in11 = sums (λ x. x.acc2) c.end2 (omega (arith, below)) (λ j. refl)

    in12 : k12 b (row i) ≡ true
    unfolding k12 in_row
    in12 = sums (λ x. x.dacc) (apart at_least c.end1 c.end2) (apart-lt at_least (omega (arith, below)) (omega (arith, below))) (λ j. refl)

    in13 : k13 b (row i) ≡ true
    unfolding k13 in_row
    in13 = sums (λ x. x.eacc) (above grown t s.mem) (above-lt grown below sound.mem) (λ j. refl)

    in14 : k14 b (row i) ≡ true
    unfolding k14 in_row
    in14 = implies_met (eqb (bit grown) 1) _ (λ f.
        sums (λ x. x.q1acc) (last_word grown t) (last_word_lt grown below) (λ j. refl)
        & sums (λ x. x.q2acc) ((square grown t).q2 % 256 ^ 3) (omega arith) (λ j. refl))

    in15 : k15 (row i) ≡ true
    unfolding k15 in_row
    in15 = bit_le at_least & bit_le grown

    in16 : k16 (row i) ≡ true
    unfolding k16 in_row
    in16 = eq-eqb t (pick (eqb (bit at_least) 1) c.end1 c.end2) (compared_met at_least c.end1 c.end2 refl).0

    -- 17, by whether the memory grows
    grows-by : (g : Bool) → ltb s.mem t ≡ g → k17 (in_row at_least g stamp s c i) ≡ true
    unfolding k17 stays grows in_row reach last_word square
    grows-by true e =
        let m : s.mem < t = ltb-true s.mem t e in
        let w = last_words t (omega arith) in
        let q2 : ℕ = (split (words t)).q2 in
        (eqb_self t & eq-eqb (cost (words t)) (word_gas * (1 + (t - 1) / word_bytes) + q2) (omega (arith, w.0, cost-split (words t))))
        & eq-eqb (cost (words t)) (s.cost + (cost (words t) - s.cost)) (omega (arith, sound.cost, paid_more {a = s.mem} {b = t} (omega arith)))
    grows-by false e = ((eqb_self s.mem & eqb_self s.cost) & eq-eqb (s.cost - s.cost) 0 (omega arith)) & refl

    in17 : k17 (row i) ≡ true
    in17 = grows-by grown refl

    in18 : k18 (row i) ≡ true
    unfolding k18 in_row
    in18 = if_equal_met i in_last _ (λ e. rw (e, prefix_last in_last c.end1, prefix_last in_last c.end2) (eqb_self c.end1 & eqb_self c.end2))

    in19 : k19 (row i) ≡ true
    unfolding k19 in_row
    in19 = if_equal_met i in_last _ (λ e. rw (e, prefix_last) (compared_met at_least c.end1 c.end2 refl).1)

    in20 : k20 (row i) ≡ true
    unfolding k20 in_row
    in20 = if_equal_met i in_last _ (λ e. rw (e, prefix_last) (reached_met grown t s.mem refl))

    -- 21 and 22: in the last row, where FLAG=1
    at_last : (f : ℕ) → (eqb i in_last && eqb f 1) ≡ true → (i ≡ in_last) × (f ≡ 1)
    at_last f e =
        let (p, q) = both (eqb i in_last) (eqb f 1) e in
        (eqb-true i in_last p, eqb-true f 1 q)

    word_by : (g : Bool) → ltb s.mem t ≡ g → bit g ≡ 1
        → (eqb (prefix_at in_last (last_word g t) in_last) (last_word g t) && eqb (pick g (last_byte g t + aux_lift) 0) (last_byte g t + aux_lift)
        && is_difference (word_bytes * last_word g t + last_byte g t) t 1) ≡ true
    unfolding last_word last_byte
    word_by true e f =
        let m : s.mem < t = ltb-true s.mem t e in
        let w = last_words t (omega arith) in
        let q : ℕ = (t - 1) / word_bytes in
        let r : ℕ = (t - 1) % word_bytes in
        (eq-eqb (prefix_at in_last q in_last) q (prefix_last in_last q) & eqb_self (r + aux_lift))
        & difference_met (word_bytes * q + r) t 1 w.1
    word_by false e f = absurd (omega arith)

    in21 : k21 b (row i) ≡ true
    unfolding k21 in_row
    in21 = implies_met (eqb i in_last && eqb (bit grown) 1) _ (λ e.
        let h = at_last (bit grown) e in
        rw (one 1 h.0, h.0) (word_by grown refl h.1))

    square-by : (g : Bool) → ltb s.mem t ≡ g → bit g ≡ 1
        → (leb (square g t).e 1 && eqb (square g t).q2 (prefix_at in_last ((square g t).q2 % 256 ^ 3) in_last + 256 ^ 3 * ((square g t).q2 / 256 ^ 3))
        && eqb ((1 + last_word g t) * (1 + last_word g t)) (joined (square g t))) ≡ true
    unfolding last_word square
    square-by true e f =
        let m : s.mem < t = ltb-true s.mem t e in
        let w = last_words t (omega arith) in
        let p : Parts = split (words t) in
        let q : ℕ = (t - 1) / word_bytes in
        let low : ℕ = p.q2 % 256 ^ 3 in
        (le-leb p.e 1 (split_in_range (words t)).bit
        & eq-eqb p.q2 (prefix_at in_last low in_last + 256 ^ 3 * (p.q2 / 256 ^ 3)) (omega (arith, prefix_last in_last low)))
        & eq-eqb ((1 + q) * (1 + q)) (joined p) (ap (λ (n : ℕ). n * n) w.0 ∙ sym (joined-split (words t)))
    square-by false e f = absurd (omega arith)

    in22 : k22 a b (row i) ≡ true
    unfolding k22 in_row
    in22 = implies_met (eqb i in_last && eqb (bit grown) 1) _ (λ e.
        let h = at_last (bit grown) e in
        rw (two 0 h.0, one 1 h.0, h.0) (square-by grown refl h.1))

    -- 23
    unused_by : (g : Bool) → bit g ≡ 0 → zeros (quotients (in_row at_least g stamp s c i)) ≡ true
    unfolding in_row last_word last_byte square
    unused_by true f = absurd (omega arith)
    unused_by false f =
        let digit = eq-eqb (digit_at in_last 0 i) 0 (digit-zero in_last i) in
        let prefix = eq-eqb (prefix_at in_last 0 i) 0 (prefix_zero in_last i) in
        let none = eq-eqb (in_rows 0 0 0 i) 0 (in_rows_zero i) in
        digit & prefix & digit & prefix & none & none & refl

    in23 : k23 (row i) ≡ true
    unfolding k23 in_row
    in23 =
        if_equal_met (bit grown) 0 _ (unused_by grown)
        & implies_met (eqb (bit grown) 1 && eqb i 0) _ (λ e. rw (eqb-true i 0 (both (eqb (bit grown) 1) (eqb i 0) e).1))

    -- row i, after the rows a and b of its cycle, meets 11 to 23
    pub in_row_meets : Within a b (row i)
    in_row_meets = record {
      t11 = in11;
      t12 = in12;
      t13 = in13;
      t14 = in14;
      t15 = in15;
      t16 = in16;
      t17 = in17;
      t18 = in18;
      t19 = in19;
      t20 = in20;
      t21 = in21;
      t22 = in22;
      t23 = in23;
    }
