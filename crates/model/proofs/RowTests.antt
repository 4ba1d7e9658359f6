-- How constraints are met, whatever the claim: under the conditions that they stand under, by STAMP and CT that move, and by bytes that sum up.
use Prim.Native.Nat.{ℕ, zero, suc, ◌+◌, ◌^◌, ◌<◌, ◌≤◌}
use mathlib.Core.Bool.{Bool, true, false, ◌||◌}
use mathlib.Core.Logic.{◌≢◌}
use mathlib.Core.Path.{◌≡◌, refl}
use native.Mathlib.Omega.{arith}
use borrow.Author.Tests.{eq-eqb, ne_eqb}
use lib.Dec.{eqb, eqb-suc-zero}
use Rattle.number.specs.Sums.{prefix_at, digit_at}
use Rattle.number.proofs.SumLaws.{digits_sum_up}
use Rattle.model.specs.Columns.{Cells}
use Rattle.model.specs.Constraints.{in_use, used, within, beyond}
use Rattle.model.specs.Constraints.{k11, k12, k13, k14, k15, k16, k17, k18, k19, k20, k21, k22, k23, k24, k25}
use Rattle.model.specs.Steps.{stamp_moves, ct_moves}
use Rattle.model.specs.Tests.{pick, sums_up}
use Rattle.model.proofs.TestFacts.{implies_met, if_equal_met, eqb_self}

-- ---- the conditions that constraints stand under

-- one of 7 to 25 is met if what it asks is
pub used_met : (x : Cells) (k : Bool) → k ≡ true → used x k ≡ true
used_met x k h = implies_met (in_use x) k (λ e. h)

-- one of 11 to 23 is met if what it asks is, where OOOB=0
pub within_met : (x : Cells) (k : Bool) → (x.ooob ≡ 0 → k ≡ true) → within x k ≡ true
within_met x k h = used_met x _ (if_equal_met x.ooob 0 k h)

-- 24 or 25 is met if what it asks is, where OOOB=1
pub beyond_met : (x : Cells) (k : Bool) → (x.ooob ≡ 1 → k ≡ true) → beyond x k ≡ true
beyond_met x k h = used_met x _ (if_equal_met x.ooob 1 k h)

-- a row x, after the rows a and b, meets 11 to 23
pub record Within (a b x : Cells) : Type 0 where
  pub t11 : k11 b x ≡ true
  pub t12 : k12 b x ≡ true
  pub t13 : k13 b x ≡ true
  pub t14 : k14 b x ≡ true
  pub t15 : k15 x ≡ true
  pub t16 : k16 x ≡ true
  pub t17 : k17 x ≡ true
  pub t18 : k18 x ≡ true
  pub t19 : k19 x ≡ true
  pub t20 : k20 x ≡ true
  pub t21 : k21 b x ≡ true
  pub t22 : k22 a b x ≡ true
  pub t23 : k23 x ≡ true

-- it meets 24 and 25
pub record Beyond (x : Cells) : Type 0 where
  pub t24 : k24 x ≡ true
  pub t25 : k25 x ≡ true

-- ---- STAMP and CT

-- inside a cycle STAMP may stay
pub stamp_stays : (s ct last : ℕ) → s ≢ 0 → ct ≢ last → stamp_moves s ct last s ≡ true
unfolding stamp_moves
stamp_stays s ct last z k = rw (ne_eqb s 0 z, ne_eqb ct last k) (eqb_self s)

-- after its last row STAMP may be one more
pub stamp_next : (s ct last : ℕ) → s ≢ 0 → ct ≡ last → stamp_moves s ct last (suc s) ≡ true
unfolding stamp_moves
stamp_next s ct last z k = rw (ne_eqb s 0 z, eq-eqb ct last k) (eq-eqb (suc s) (s + 1) (omega arith))

-- where STAMP is new CT may be 0
pub ct_starts : (s ct t : ℕ) → t ≢ s → ct_moves s ct t 0 ≡ true
unfolding ct_moves
ct_starts s ct t k = rw (ne_eqb t s k) (go (eqb t 0))
  where
    go : (z : Bool) → eqb 0 (pick (z || true) 0 (ct + 1)) ≡ true
    go true = refl
    go false = refl

-- inside a cycle CT may be one more
pub ct_next : (s ct : ℕ) → s ≢ 0 → ct_moves s ct s (suc ct) ≡ true
unfolding ct_moves
ct_next s ct z = rw (ne_eqb s 0 z, eqb_self s) (eq-eqb (suc ct) (ct + 1) (omega arith))

-- ---- sums

-- the digits of v sum up to it, where the row before holds the prefix before
pub sums_met : (m v : ℕ) → v < 256 ^ suc m → (i b : ℕ) → i ≤ m → ((j : ℕ) → i ≡ suc j → b ≡ prefix_at m v j)
    → sums_up i b (digit_at m v i) (prefix_at m v i) ≡ true
unfolding sums_up
sums_met m v h zero b l e = eq-eqb _ _ (digits_sum_up m v h).first
sums_met m v h (suc i) b l e =
    rw (eqb-suc-zero i, e i refl) (eq-eqb _ _ ((digits_sum_up m v h).next i l))
