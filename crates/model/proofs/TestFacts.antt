-- What the tests of the constraints say, and how they are met.
use Prim.Native.Nat.{ℕ, zero, suc, ◌+◌, ◌*◌}
use mathlib.Core.Bool.{Bool, true, false, false≢true, not, ◌&&◌}
use mathlib.Core.List.{List, [], ◌∷◌}
use mathlib.Core.Logic.{◌≢◌}
use mathlib.Core.Path.{◌≡◌, refl, sym, ap, ap₂}
use native.Mathlib.Omega.{arith}
use borrow.Author.Tests.{eqb-true, eqb-false, eq-eqb, ne_eqb, not-true}
use lib.Dec.{eqb, leb, eqb-suc-zero}
use lib.ListN.{length, get_or, replicate}
use Rattle.number.specs.Tables.{every}
use Rattle.number.proofs.TestLaws.{both, both_intro}
use Rattle.model.specs.Constraints.{equal}
use Rattle.model.specs.Tests.{pick, implies, bit, zeros, is_difference, sums_up}

-- ---- tests under a condition

-- where the condition holds, so does what is tested
pub implies_use : (a b : Bool) → implies a b ≡ true → a ≡ true → b ≡ true
implies_use true b h e = h
implies_use false b h e = absurd (false≢true e)

-- it is met if that holds under the condition
pub implies_met : (a b : Bool) → (a ≡ true → b ≡ true) → implies a b ≡ true
implies_met true b h = h refl
implies_met false b h = refl

-- the same, where the condition is that two numbers are equal
pub if_equal_use : (m n : ℕ) (t : Bool) → implies (eqb m n) t ≡ true → m ≡ n → t ≡ true
if_equal_use m n t h e = implies_use (eqb m n) t h (eq-eqb m n e)

-- and it is met if that holds where they are
pub if_equal_met : (m n : ℕ) (t : Bool) → (m ≡ n → t ≡ true) → implies (eqb m n) t ≡ true
if_equal_met m n t h = implies_met (eqb m n) t (λ e. h (eqb-true m n e))

-- and where it is that they are not
pub if_unequal_use : (m n : ℕ) (t : Bool) → implies (not (eqb m n)) t ≡ true → m ≢ n → t ≡ true
if_unequal_use m n t h d = implies_use (not (eqb m n)) t h (ap not (ne_eqb m n d))

-- and it is met if that holds where they are not
pub if_unequal_met : (m n : ℕ) (t : Bool) → (m ≢ n → t ≡ true) → implies (not (eqb m n)) t ≡ true
if_unequal_met m n t h = implies_met (not (eqb m n)) t (λ e. h (eqb-false m n (not-true (eqb m n) e)))

-- a test that is met after another
infixr 40 ◌&◌
pub ◌&◌ : {a b : Bool} → a ≡ true → b ≡ true → (a && b) ≡ true
◌&◌ {a} {b} p q = both_intro a b p q

-- a number equals itself
pub eqb_self : (n : ℕ) → eqb n n ≡ true
eqb_self n = eq-eqb n n refl

-- the bit of a test is 0 or 1
pub bit_le : (t : Bool) → leb (bit t) 1 ≡ true
bit_le true = refl
bit_le false = refl

-- ---- what is picked by a test

-- either way it has a property that each has where it is picked
pub pick_has : {A : Type 0} (P : A → Type 0) (t : Bool) {a b : A} → (t ≡ true → P a) → (t ≡ false → P b) → P (pick t a b)
pick_has P true f g = f refl
pick_has P false f g = g refl

-- a function of what is picked
pub pick_under : {A B : Type 0} (f : A → B) (t : Bool) (a b : A) → pick t (f a) (f b) ≡ f (pick t a b)
pick_under f true a b = refl
pick_under f false a b = refl

-- it is the second if the first, where it is picked, is that too
pub pick_second : {A : Type 0} (t : Bool) (a b : A) → (t ≡ true → b ≡ a) → pick t a b ≡ b
pick_second true a b f = sym (f refl)
pick_second false a b f = refl

-- ---- lists

-- a test that passes on a whole list passes at each place, where it does outside of it
every_true : {A : Type 0} (f : A → Bool) (d : A) → f d ≡ true → (l : List A) → every f l ≡ true → (i : ℕ) → f (get_or l i d) ≡ true
every_true f d e [] h i = e
every_true f d e (x ∷ xs) h zero = (both (f x) (every f xs) h).0
every_true f d e (x ∷ xs) h (suc i) = every_true f d e xs (both (f x) (every f xs) h).1 i

-- all tests of a list pass
pub all_at : (l : List Bool) → every (λ (t : Bool). t) l ≡ true → (k : ℕ) → get_or l k true ≡ true
all_at l h k = every_true (λ (t : Bool). t) true refl l h k

-- all numbers of a list are 0
pub zeros_at : (l : List ℕ) → zeros l ≡ true → (i : ℕ) → get_or l i 0 ≡ 0
zeros_at l h i = eqb-true (get_or l i 0) 0 (every_true (λ v. eqb v 0) 0 refl l h i)

-- it is a list of zeros
pub zeros_are : (l : List ℕ) → zeros l ≡ true → l ≡ replicate (length l) 0
zeros_are [] h = refl
zeros_are (v ∷ vs) h = ap₂ {C = List ℕ} ◌∷◌ (zeros_at (v ∷ vs) h 0) (zeros_are vs (both (eqb v 0) (zeros vs) h).1)

-- only equal lists pass the test
pub equal_are : (xs ys : List ℕ) → equal xs ys ≡ true → xs ≡ ys
unfolding equal
equal_are [] [] h = refl
equal_are [] (y ∷ ys) h = absurd (false≢true h)
equal_are (x ∷ xs) [] h = absurd (false≢true h)
equal_are (x ∷ xs) (y ∷ ys) h =
    let (p, q) = both (eqb x y) (equal xs ys) h in
    ap₂ {C = List ℕ} ◌∷◌ (eqb-true x y p) (equal_are xs ys q)

-- and they do
pub equal_self : (xs : List ℕ) → equal xs xs ≡ true
unfolding equal
equal_self [] = refl
equal_self (x ∷ xs) = eqb_self x & equal_self xs

-- ---- sums and differences

-- where CT=0 a sum is its first byte
pub sums_first : (ct before x y : ℕ) → sums_up ct before x y ≡ true → ct ≡ 0 → y ≡ x
unfolding sums_up
sums_first zero before x y h e = eqb-true y x h
sums_first (suc ct) before x y h e = absurd (omega arith)

-- after that it is 256 times the one before and the byte
pub sums_next : (ct i before x y : ℕ) → sums_up ct before x y ≡ true → ct ≡ suc i → y ≡ 256 * before + x
unfolding sums_up
sums_next zero i before x y h e = absurd (omega arith)
sums_next (suc ct) i before x y h e = eqb-true y (256 * before + x) (rw (eqb-suc-zero ct) at h)

-- a difference is tested by a sum
pub difference : (v a b : ℕ) → is_difference v a b ≡ true → v + b ≡ a
unfolding is_difference
difference v a b h = eqb-true (v + b) a h

-- and the test passes where the sum is right
pub difference_met : (v a b : ℕ) → v + b ≡ a → is_difference v a b ≡ true
unfolding is_difference
difference_met v a b e = eq-eqb (v + b) a e
