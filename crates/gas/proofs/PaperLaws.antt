-- Ours and the Yellow Paper's: words and cost are M and C_mem.
use Prim.Native.Nat.{ℕ, zero, suc, ◌*◌, ◌≤◌, max}
use mathlib.Core.Path.{◌≡◌}
use native.Mathlib.Nat.{pow-zero, pow-suc, one-mul}
use native.Mathlib.Omega.{arith}
use Rattle.gas.specs.Gas.{range_end, words, cost}
use Rattle.gas.specs.Paper.{ceiling, M, C_mem}

-- ⌈n ÷ 32⌉ is the least number of words that n bytes fit into
pub ceiling_least : (n : ℕ) → (n ≤ 32 * ceiling n) × ((k : ℕ) → n ≤ 32 * k → ceiling n ≤ k)
unfolding ceiling
ceiling_least n = (omega arith, λ k h. omega arith)

-- our rounding is the Paper's
pub words-ceiling : (n : ℕ) → words n ≡ ceiling n
unfolding words ceiling
words-ceiling n = omega arith

-- the Paper's words after touching a range are the greater of the words before and those of the range's end
pub words-paper : (s f l : ℕ) → max s (words (range_end f l)) ≡ M s f l
unfolding words range_end M ceiling
words-paper s f zero = omega arith
words-paper s f (suc l) = omega arith

-- our C is the Paper's C_mem
pub cost-paper : (a : ℕ) → cost a ≡ C_mem a
unfolding cost C_mem
cost-paper a = rw (pow-suc a 1, pow-suc a 0, pow-zero, one-mul)
