-- Laws of numbers in two halves and of their sums: the parts of a number at base 2 ^ 64 are its own (`parts_of`).
use Prim.Native.Nat.{ℕ, ◌+◌, ◌*◌, ◌/◌, ◌%◌, ◌^◌, ◌<◌}
use mathlib.Core.Bool.{true, ◌&&◌}
use mathlib.Core.Path.{◌≡◌}
use native.Mathlib.Nat.{add-mul}
use native.Mathlib.Omega.{arith}
use lib.Dec.{eqb}
use borrow.Author.Tests.{eq-eqb, eqb-true}
use Rattle.number.specs.Whole.{val}
use Rattle.number.specs.declared.wide.Wide.{Wide}
use Rattle.number.proofs.TestLaws.{same_test, both, both_intro}
use Rattle.number.proofs.WholeLaws.{parts_of, parts_join}
use Rattle.long.specs.Halves.{whole, long}
use Rattle.long.specs.declared.Long.{Long}

-- the halves of a number hold it
pub whole_long : (v : ℕ) → whole (long v) ≡ v
unfolding whole long
whole_long v = parts_join v

-- halves are those of the number that they hold
pub long_is : (x : Long) (v : ℕ) → whole x ≡ v → x.lo < 2 ^ 64 → x ≡ long v
unfolding whole long
long_is x v e h =
    let p = parts_of v x.hi x.lo e h in
    λ i. record { hi = p.0 i; lo = p.1 i }

-- a number is 0 where both halves are
pub eqb-whole : (x : Long) → (eqb x.hi 0 && eqb x.lo 0) ≡ eqb (whole x) 0
unfolding whole
eqb-whole x = same_test (eqb x.hi 0 && eqb x.lo 0) (eqb (x.hi * 2 ^ 64 + x.lo) 0) there back
  where
    there : (eqb x.hi 0 && eqb x.lo 0) ≡ true → eqb (x.hi * 2 ^ 64 + x.lo) 0 ≡ true
    there e =
        let h = both (eqb x.hi 0) (eqb x.lo 0) e in
        eq-eqb (x.hi * 2 ^ 64 + x.lo) 0 (omega (arith, eqb-true x.hi 0 h.0, eqb-true x.lo 0 h.1))

    back : eqb (x.hi * 2 ^ 64 + x.lo) 0 ≡ true → (eqb x.hi 0 && eqb x.lo 0) ≡ true
    back e =
        let q = eqb-true (x.hi * 2 ^ 64 + x.lo) 0 e in
        both_intro (eqb x.hi 0) (eqb x.lo 0) (eq-eqb x.hi 0 (omega arith)) (eq-eqb x.lo 0 (omega arith))

-- one hex digit more: what the last half loses goes to the first
pub digit_more : (x : Long) (d : ℕ) → (x.hi * 16 + x.lo / 2 ^ 60) * 2 ^ 64 + (x.lo % 2 ^ 60 * 16 + d) ≡ whole x * 16 + d
unfolding whole
digit_more x d = omega arith

-- two sums, the carry of the last taken into the first, at any base: `omega` takes no coefficient past 2^64
carried : (K ah al bh bl top hi carry lo : ℕ) → carry * K + lo ≡ al + bl + 0 → top * K + hi ≡ ah + bh + carry
    → (top * K + hi) * K + lo ≡ ah * K + al + (bh * K + bl)
carried K ah al bh bl top hi carry lo low high = rw (high, add-mul, add-mul) (omega arith)

-- the sum of two numbers by their halves
pub halves_sum : (a b : Long) (w : Wide) (carry : ℕ) → carry * 2 ^ 64 + w.lo ≡ a.lo + b.lo + 0 → w.top * 2 ^ 64 + w.hi ≡ a.hi + b.hi + carry
    → val w ≡ whole a + whole b
unfolding val whole
halves_sum a b w carry low high = carried (2 ^ 64) a.hi a.lo b.hi b.lo w.top w.hi carry w.lo low high
