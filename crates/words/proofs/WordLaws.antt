-- The words that the rules are written in, and what constraints 19 and 25 ask in them.
use Rattle.std.proofs.Common.{◌≡◌, ℕ, ◌+◌, ◌*◌, Bool, true, false, eqb, ltb, leb, sym, refl, ◌∙◌, add_comm, arith, ltb-false, ltb-true, le-leb}
use Rattle.std.specs.Int.{from_bool}
use borrow.Author.Tests.{lt-leb}
use Rattle.number.specs.Whole.{bound, val}
use Rattle.number.specs.declared.wide.Wide.{Wide}
use Rattle.model.specs.Tests.{bit, pick, is_difference, sums_up}
use Rattle.model.proofs.TestFacts.{pick_under}

-- an equation by way of another, whose right side is known first
pub through : {A : Type 0} {r m k : A} → m ≡ k → r ≡ m → r ≡ k
through e f = f ∙ e

-- a test as a number, in the library's word and in the model's
pub from_bool_bit : (t : Bool) → from_bool t ≡ bit t
from_bool_bit true = refl
from_bool_bit false = refl

-- a test of what is picked is the pick of two tests
pub sums_up_picks : (ct before x y : ℕ) → pick (eqb ct 0) (eqb y x) (eqb y (256 * before + x)) ≡ sums_up ct before x y
unfolding sums_up
sums_up_picks ct before x y = pick_under (eqb y) (eqb ct 0) x (256 * before + x)

-- the number of what is picked is the pick of two numbers
pub val_pick : (t : Bool) (a b : Wide) → val (pick t a b) ≡ pick t (val a) (val b)
val_pick t a b = sym (pick_under val t a b)

-- a gap between two ends by two sums of a small number and one of 17 bytes
pub gap_sums : (comp d end1 end2 : ℕ)
    → pick (eqb comp 1) (eqb (d + end2) end1) (eqb (d + 1 + end1) end2)
    ≡ pick (eqb comp 1) (is_difference d end1 end2) (is_difference d end2 (end1 + 1))
unfolding is_difference
gap_sums comp d end1 end2 =
    let e : d + 1 + end1 ≡ d + (end1 + 1) = omega arith in
    rw e

-- the tests m < n and n ≤ m pick the other way round
pick_other : (m n a b : ℕ) → pick (ltb m n) b a ≡ pick (leb n m) a b
pick_other m n a b = by (ltb m n) refl
  where
    by : (t : Bool) → ltb m n ≡ t → pick (ltb m n) b a ≡ pick (leb n m) a b
    by true e = rw (e, lt-leb n m (ltb-true m n e))
    by false e = rw (e, le-leb n m (ltb-false m n e))

-- how far an end is beyond the bound by one such sum, and by the test that END1 is in bounds
pub beyond_sums : (end1 end2 acc : ℕ)
    → eqb (bound + acc) (pick (ltb end1 bound) end2 end1) ≡ is_difference acc (pick (leb bound end1) end1 end2) bound
unfolding is_difference
beyond_sums end1 end2 acc = rw (pick_other end1 bound end1 end2, add_comm bound acc)
