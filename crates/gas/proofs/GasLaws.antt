-- Laws of words, cost and the split of a square.
use Prim.Native.Nat.{ℕ, ◌+◌, ◌*◌, ◌^◌, ◌≤◌, ◌<◌, max}
use mathlib.Core.Path.{◌≡◌, refl}
use native.Mathlib.Nat.{le_of_lt, lt_of_le_of_lt, mul-le-mul, mul-le-mul_left, mul-lt-mul_of_pos_right}
use native.Mathlib.Omega.{arith}
use lib.Pow.{pow_pos}
use Rattle.gas.specs.Gas.{word_gas, words, cost, Parts, InRange, joined, split}

-- the words of a maximum are the maximum of the words
pub words_max : (a b : ℕ) → words (max a b) ≡ max (words a) (words b)
unfolding words
words_max a b = omega arith

-- more words never cost less
pub cost_monotone : {a b : ℕ} → a ≤ b → cost a ≤ cost b
unfolding cost
cost_monotone h = omega (arith, mul-le-mul h h)

-- the square of a number of 32 bits has 64
pub square_fits : {a : ℕ} → a < 2 ^ 32 → a * a < 2 ^ 64
square_fits {a} h = lt_of_le_of_lt (mul-le-mul_left a (le_of_lt h)) (mul-lt-mul_of_pos_right h (pow_pos 32))

-- the cost's second summand is the split's first part
pub cost-split : (a : ℕ) → cost a ≡ word_gas * a + (split a).q2
unfolding cost split
cost-split a = refl

-- ---- the split of a square is the one way to write it so

-- splits with the same three parts are the same
pub parts_path : (p r : Parts) → p.q2 ≡ r.q2 → p.e ≡ r.e → p.low ≡ r.low → p ≡ r
parts_path p r q e l = λ i. record { q2 = q i; e = e i; low = l i }

-- the split has a bit and a byte
pub split_in_range : (a : ℕ) → InRange (split a)
unfolding split
split_in_range a = omega arith

-- its parts stand for the square
pub joined-split : (a : ℕ) → joined (split a) ≡ a * a
unfolding joined split
joined-split a = omega arith

-- parts in range that stand for the square are these
pub split_unique : (a : ℕ) (p : Parts) → InRange p → joined p ≡ a * a → p ≡ split a
unfolding joined split
split_unique a p s h = parts_path p (split a) (omega arith) (omega arith) (omega arith)
