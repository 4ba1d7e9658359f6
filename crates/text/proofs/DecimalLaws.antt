-- Laws of numbers in decimal: reading the digits back gives the number, each byte is a digit, no number but 0 begins with a zero, and a number
-- below 2^64 has 1 to 20 digits. Each comes from the law of digits at any base.
use Prim.Native.Nat.{ℕ, zero, suc, ◌-◌, ◌*◌, ◌/◌, ◌%◌, ◌^◌, ◌≤◌, ◌<◌}
use mathlib.Core.List.{List, [], ◌∷◌, ◌++◌, map, map-append}
use mathlib.Core.Path.{◌≡◌, refl, sym, ◌∙◌, ap}
use native.Mathlib.Nat.{pow-suc, mod-eq_of_lt, one-le-pow}
use native.Mathlib.Omega.{arith}
use borrow.Author.Tests.{lt-ltb}
use lib.ListN.{length, get_or, length-map}
use Rattle.form.specs.Ascii.{ascii}
use Rattle.io.specs.Digits.{last_digits as io_digits, IsDigitCount}
use Rattle.number.specs.Digits.{digits_within, digits, spell, AllBelow}
use Rattle.number.proofs.DigitLaws.{digits_induction, spell-digits, digits-below, length_digits_pos, length_digits, digits-first}
use Rattle.text.specs.Decimal.{digit, digit_of, decimal, max_digits, AllDigits}

-- one digit, a zero at the end, three digits, and the greatest number of 64 bits
pub decimal-examples : (decimal 0 ≡ ascii "0") × (decimal 10 ≡ ascii "10") × (decimal 705 ≡ ascii "705")
    × (decimal (2 ^ 64 - 1) ≡ ascii "18446744073709551615")
unfolding decimal digits digits_within
decimal-examples = (refl, refl, refl, refl)

-- 10 is a base
base : 1 < 10
base = omega arith

-- ---- reading back

-- codes count what their digits do
codes_read : (ds : List ℕ) → map digit_of (map digit ds) ≡ ds
codes_read [] = refl
codes_read (d ∷ ds) =
    let e : digit_of (digit d) ≡ d = omega arith in
    rw (e, codes_read ds)

-- reading the digits back gives the number
pub read_decimal : (n : ℕ) → spell 10 (map digit_of (decimal n)) ≡ n
unfolding decimal
read_decimal n = rw (codes_read (digits 10 n)) (spell-digits 10 base n)

-- so two numbers with equal digits are equal
pub decimal_injective : (m n : ℕ) → decimal m ≡ decimal n → m ≡ n
decimal_injective m n e = sym (read_decimal m) ∙ ap (λ (l : List ℕ). spell 10 (map digit_of l)) e ∙ read_decimal n

-- ---- the digits

-- each byte is a digit
pub decimal-digits : (n : ℕ) → AllDigits (decimal n)
unfolding decimal
decimal-digits n = codes (digits 10 n) (digits-below 10 base n)
  where
    codes : (ds : List ℕ) → AllBelow 10 ds → AllDigits (map digit ds)
    codes [] b i h = absurd (omega arith)
    codes (d ∷ ds) b zero h = omega arith
    codes (d ∷ ds) b (suc i) h = codes ds b.1 i (omega arith)

-- there is one at least
pub length_decimal_pos : (n : ℕ) → 1 ≤ length (decimal n)
unfolding decimal
length_decimal_pos n = rw length-map (length_digits_pos 10 base n)

-- a number of 64 bits has at most 20
pub length_decimal_64 : (n : ℕ) → n < 2 ^ 64 → length (decimal n) ≤ max_digits
unfolding decimal
length_decimal_64 n h = rw length-map (length_digits 10 base n 19 (omega arith))

-- only 0 begins with the digit 0
pub decimal-first : (n : ℕ) → get_or (decimal n) 0 0 ≡ digit 0 → n ≡ 0
unfolding decimal
decimal-first n e = digits-first 10 base n (first (digits 10 n) e)
  where
    first : (ds : List ℕ) → get_or (map digit ds) 0 0 ≡ digit 0 → get_or ds 0 0 ≡ 0
    first [] c = refl
    first (d ∷ ds) c = omega arith

-- ---- the digits that `io` makes

-- a number of two digits or more is at least the power of ten of its first
fewest_least : (n k : ℕ) → IsDigitCount 10 1 n (suc (suc k)) → 10 ^ k * 10 ≤ n
fewest_least n k f =
    let e : suc (suc k) - 1 ≡ suc k = omega arith in
    rw (e, pow-suc) at (f.2 (omega arith))

-- the digits of a number in as few places as hold it are the number in decimal
pub fewest_digits : (n k : ℕ) → IsDigitCount 10 1 n k → io_digits 10 k n ≡ decimal n
unfolding decimal
fewest_digits = digits_induction 10 base (λ n l. (k : ℕ) → IsDigitCount 10 1 n k → io_digits 10 k n ≡ map digit l) small large
  where
    small : (n : ℕ) → n < 10 → (k : ℕ) → IsDigitCount 10 1 n k → io_digits 10 k n ≡ digit n ∷ []
    small n h zero f = absurd (omega arith)
    small n h (suc zero) f =
        let m : n % 10 ≡ n = mod-eq_of_lt h in
        rw (m, lt-ltb n 10 h)
    small n h (suc (suc k)) f = absurd (omega (arith, fewest_least n k f, one-le-pow k 10 (omega arith)))

    large : (n : ℕ) (l : List ℕ) → 10 ≤ n → ((k : ℕ) → IsDigitCount 10 1 (n / 10) k → io_digits 10 k (n / 10) ≡ map digit l)
        → (k : ℕ) → IsDigitCount 10 1 n k → io_digits 10 k n ≡ map digit (l ++ (n % 10 ∷ []))
    large n l h ih zero f = absurd (omega arith)
    large n l h ih (suc zero) f = absurd (omega arith)
    large n l h ih (suc (suc k)) f =
        let e : suc k - 1 ≡ k = omega arith in
        let tenth : IsDigitCount 10 1 (n / 10) (suc k) = (omega arith, omega (arith, pow-suc 10 (suc k)), λ m. rw e (omega (arith, fewest_least n k f))) in
        rw (map-append, ih (suc k) tenth, lt-ltb (n % 10) 10 (omega arith))
