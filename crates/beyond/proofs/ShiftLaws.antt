-- Digits at base 256 that go off the front of a number, one a row, and sum up again: after row i they are the digits of the number up to place i.
use Prim.Native.Nat.{ℕ, suc, ◌+◌, ◌*◌, ◌-◌, ◌/◌, ◌^◌, ◌<◌, ◌≤◌}
use mathlib.Core.Logic.{⊎_elim}
use mathlib.Core.Path.{◌≡◌, sym, ◌∙◌, ap}
use native.Mathlib.Nat.{one-mul, zero-mul, mul-le-mul_right, le_of_mul-le-mul_right, lt_of_mul-lt-mul_right, eq-zero-or-pos}
use native.Mathlib.Nat.{div-eq_of_lt-le, mul-div-mul_left, one-le-pow, pow-le-pow_right, pow-succ'}
use native.Mathlib.Omega.{arith}
use lib.Pow.{pow-add}
use Rattle.number.specs.Sums.{prefix_at, digit_at}
use Rattle.beyond.specs.Shifted.{Shifted}

-- at first none have
pub shift_none : (m d : ℕ) → d < 256 ^ suc m → Shifted m d 0 0 d
shift_none m d h = record { parts = omega arith; left = h; fits = h }

-- ---- one digit more, over any room w for a number

module _ (w p d q r t u v z : ℕ) (parts : p * d ≡ q * w + r) (off : t * w + z ≡ 256 * r) (on : u * w + v ≡ 256 * q + t)
    (room : 256 * p ≤ w) (fits : d < w) where
  moved : 256 * p * d ≡ (256 * q + t) * w + z
  moved = omega (arith, parts, off)

  sum_le : 256 * q + t ≤ d
  sum_le = le_of_mul-le-mul_right {m = 256 * q + t} {n = d} {k = w} (omega (arith, moved, mul-le-mul_right d room)) (omega arith)

  -- the sum has room, and nothing is lost
  sum_kept : v ≡ 256 * q + t
  sum_kept =
      ⊎_elim (λ e. omega (arith, rw (e, zero-mul) at on))
      (λ h. absurd (omega (arith, on, sum_le, fits, mul-le-mul_right w h, one-mul w)))
      (eq-zero-or-pos u)

  digit-below : r < w → t < 256
  digit-below h = lt_of_mul-lt-mul_right w {m = t} {n = 256} (omega arith)

  one_more : r < w → (v ≡ 256 * q + t) × (256 * p * d ≡ v * w + z) × (t < 256)
  one_more h = (sum_kept, rw sum_kept moved, digit-below h)

-- what spells the first digits is a quotient
spells : (x y d q r : ℕ) → 0 < x → x * d ≡ q * (x * y) + r → r < x * y → q ≡ d / y
spells x y d q r h e l =
    let n : ℕ = x * y in
    let quotient : x * d / n ≡ q = div-eq_of_lt-le {k = q} n {m = x * d} (omega arith) (omega arith) in
    sym quotient ∙ mul-div-mul_left {m = x} d y h

-- the sum after row i is what the digits up to place i spell
spelled : {m d i q r : ℕ} → i ≤ m → Shifted m d (suc i) q r → q ≡ prefix_at m d i
unfolding prefix_at
spelled {m} {d} {i} {q} {r} h s =
    let e : suc m ≡ suc i + (m - i) = omega arith in
    let power : 256 ^ suc m ≡ 256 ^ suc i * 256 ^ (m - i) = ap (λ (k : ℕ). 256 ^ k) e ∙ pow-add 256 (suc i) (m - i) in
    spells (256 ^ suc i) (256 ^ (m - i)) d q r (one-le-pow (suc i) 256 (omega arith)) (rw power at s.parts) (rw power at s.left)

-- what row i shows of d: t is its digit there, the digits up to it spell q, and r is what is left after it
pub record Shown (m d i t q r : ℕ) : Type 0 where
  pub digit : t ≡ digit_at m d i
  pub prefix : q ≡ prefix_at m d i
  pub next : Shifted m d (suc i) q r

-- the digit t goes off the front of r and is added to the sum q, which has room for it: u, what the sum loses, is 0
pub shift_next : {m d i q r t v z : ℕ} (u : ℕ) → i ≤ m → Shifted m d i q r → t * 256 ^ suc m + z ≡ 256 * r + 0
    → u * 256 ^ suc m + v ≡ 256 * q + t → z < 256 ^ suc m → Shown m d i t v z
unfolding digit_at
shift_next {m} {d} {i} {q} {r} {t} {v} {z} u h s off on below =
    let w : ℕ = 256 ^ suc m in
    let gone : t * w + z ≡ 256 * r = omega arith in
    let power : 256 ^ suc i ≡ 256 * 256 ^ i = pow-succ' 256 i in
    let room : 256 * 256 ^ i ≤ w = rw power at (pow-le-pow_right {n = 256} (omega arith) {i = suc i} {j = suc m} (omega arith)) in
    let more = one_more w (256 ^ i) d q r t u v z s.parts gone on room s.fits s.left in
    let next : Shifted m d (suc i) v z = record { parts = rw power more.1; left = below; fits = s.fits } in
    let prefix = spelled h next in
    record { digit = rw (← prefix) (omega (arith, more.0, more.2)); prefix = prefix; next = next }
