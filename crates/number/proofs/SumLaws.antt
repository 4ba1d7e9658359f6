-- Sums of bytes, once over the number of rows: bytes that sum up to v over the rows 0 .. m are the digits of v, and their sums
-- its prefixes; and the digits of any v below 256 ^ (m + 1) sum up to v.
use Prim.Native.Nat.{ℕ, zero, suc, ◌+◌, ◌-◌, ◌/◌, ◌%◌, ◌^◌, ◌<◌, ◌≤◌}
use mathlib.Core.Path.{◌≡◌, sym, ◌∙◌, ap}
use native.Mathlib.Nat.{add-zero, div-one, pow-suc, div-div-eq-div-mul, div-lt_iff_lt-mul, one-le-pow, sub_self, sub-zero, zero-div}
use native.Mathlib.Omega.{arith}
use Rattle.number.specs.Sums.{SumsUp, ByteRows, prefix_at, digit_at}

module _ (m : ℕ) (x y : ℕ → ℕ) (bytes : ByteRows m x) (sums : SumsUp m x y) where
  sum_below : (i : ℕ) → i ≤ m → y i < 256 ^ suc i
  sum_below zero h = omega (arith, sums.first, bytes 0 h)
  sum_below (suc i) h = omega (arith, sums.next i (omega arith), bytes (suc i) h, sum_below i (omega arith))

  -- m + 1 bytes sum up to a number below 256 ^ (m + 1)
  pub sum_lt : y m < 256 ^ suc m
  sum_lt = sum_below m (omega arith)

  prefix_back : (j i : ℕ) → i + j ≡ m → y i ≡ y m / 256 ^ j
  prefix_back zero i e = omega (arith, ap y (sym (add-zero i) ∙ e))
  prefix_back (suc j) i e =
      let h : y (suc i) ≡ y m / 256 ^ j = prefix_back j (suc i) (omega arith) in
      let k : y i ≡ y (suc i) / 256 = omega (arith, sums.next i (omega arith), bytes (suc i) (omega arith)) in
      rw (k, h, div-div-eq-div-mul, pow-suc)

  last_byte : (i : ℕ) → i ≤ m → x i ≡ y i % 256
  last_byte zero h = omega (arith, sums.first, bytes 0 h)
  last_byte (suc i) h = omega (arith, sums.next i (omega arith), bytes (suc i) h)

  -- the last sum determines each sum and each byte
  pub sums_prefix : (i : ℕ) → i ≤ m → y i ≡ prefix_at m (y m) i
  unfolding prefix_at
  sums_prefix i h = prefix_back (m - i) i (omega arith)

  pub sums_digit : (i : ℕ) → i ≤ m → x i ≡ digit_at m (y m) i
  unfolding digit_at
  sums_digit i h = rw (last_byte i h, ← sums_prefix i h)

-- ---- and conversely

-- all digits spell the number
pub prefix_last : (m v : ℕ) → prefix_at m v m ≡ v
unfolding prefix_at
prefix_last m v = rw (sub_self, div-one)

-- a digit is a byte
pub digit_lt : (m v i : ℕ) → digit_at m v i < 256
unfolding digit_at
digit_lt m v i = omega arith

prefix_step : (m v i : ℕ) → i < m → prefix_at m v i ≡ prefix_at m v (suc i) / 256
unfolding prefix_at
prefix_step m v i h =
    let e : m - i ≡ suc (m - suc i) = omega arith in
    rw (e, div-div-eq-div-mul, pow-suc)

prefix_first : (m v : ℕ) → v < 256 ^ suc m → prefix_at m v 0 < 256
unfolding prefix_at
prefix_first m v h = (div-lt_iff_lt-mul (one-le-pow (m - 0) 256 (omega arith))).1 (rw sub-zero (omega arith))

-- the digits of a number that has room sum up to it
pub digits_sum_up : (m v : ℕ) → v < 256 ^ suc m → SumsUp m (digit_at m v) (prefix_at m v)
unfolding digit_at
digits_sum_up m v h = record { first = omega (arith, prefix_first m v h); next = λ i k. omega (arith, prefix_step m v i k) }

-- the digits of 0, and its prefixes
pub prefix_zero : (m i : ℕ) → prefix_at m 0 i ≡ 0
unfolding prefix_at
prefix_zero m i = zero-div (256 ^ (m - i))

-- its digits are 0
pub digit-zero : (m i : ℕ) → digit_at m 0 i ≡ 0
unfolding digit_at
digit-zero m i = rw prefix_zero
