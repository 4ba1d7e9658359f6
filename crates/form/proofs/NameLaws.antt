-- Laws of names: their characters one by one, and all of them as one number.
use Prim.Native.Nat.{ℕ, zero, suc, ◌+◌, ◌*◌, ◌/◌, ◌%◌, ◌^◌, ◌≤◌, ◌<◌}
use mathlib.Core.List.{List}
use mathlib.Core.Path.{◌≡◌, refl, ◌∙◌}
use Rattle.std.proofs.Math.Pow.{pow-lt}
use Rattle.std.proofs.lemmas.Nat.{pow-add}
use native.Mathlib.Nat.{add-zero, suc-add, mul_assoc, one-le-pow, pow-suc, div-add-mod', mod-lt, mod-eq_of_lt, mul-add-mod_self_right}
use native.Mathlib.Omega.{arith}
use borrow.Author.Tests.{eq-eqb, ne_eqb}
use lib.ListN.{length, get_or}
use Rattle.cell.specs.Low.{le, low_num}
use Rattle.form.specs.Read.{got, stop, char_at, read_text}
use Rattle.form.proofs.StepLaws.{char_in}

-- a number below b * 256 that a larger one leaves: its last byte, and what is before it
cut_first : (b c j v : ℕ) → c < 256 → 0 < b → (j * 256 + c) % (b * 256) ≡ v → (c ≡ v % 256) × (j % b ≡ v / 256)
cut_first b c j v h some e =
    let q : ℕ = (j * 256 + c) / (b * 256) in
    let less : v < b * 256 = rw e at (mod-lt (j * 256 + c) {m = b * 256} (omega arith)) in
    let same : q * b * 256 + v ≡ j * 256 + c = rw (e, ← mul_assoc) at (div-add-mod' (j * 256 + c) (b * 256)) in
    let rest : j ≡ q * b + v / 256 = omega arith in
    (omega arith, rw (rest, mul-add-mod_self_right, mod-eq_of_lt {n = v / 256} {m = b} (omega arith)))

module _ (t : List ℕ) where
  -- the first character of a name agrees: the others are read at the next place
  pub char_agrees : (n v p : ℕ) → char_at t p ≡ v % 256 → read_text (le (suc n) v) t p ≡ read_text (le n (v / 256)) t (suc p)
  unfolding read_text le
  char_agrees n v p e = rw (eq-eqb (char_at t p) (v % 256) e)

  -- it does not: there reading stops
  pub char_differs : (n v p : ℕ) → (char_at t p ≡ v % 256 → ⊥) → read_text (le (suc n) v) t p ≡ stop p
  unfolding read_text le
  char_differs n v p e = rw (ne_eqb (char_at t p) (v % 256) e)

  -- the number of the characters that stand there ends with a name's number, so they begin with the name's
  pub name_stands : ((i : ℕ) → get_or t i 0 < 256) → (n k v p : ℕ) → p + n ≤ length t → low_num t p (n + k) % 256 ^ n ≡ v → read_text (le n v) t p ≡ got tt (p + n)
  unfolding read_text le low_num
  name_stands bytes zero k v p h e = rw add-zero
  name_stands bytes (suc n) k v p h e =
      let parts = cut_first (256 ^ n) (get_or t p 0) (low_num t (suc p) (n + k)) v (bytes p) (one-le-pow n 256 (omega arith)) (rw (suc-add, pow-suc) at e) in
      let place : p + suc n ≡ suc p + n = omega arith in
      rw place
      (char_agrees n v p (char_in t p (omega arith) ∙ parts.0) ∙ name_stands bytes n k (v / 256) (suc p) (omega arith) parts.1)

-- ---- 256 to the power of a name's characters

byte_pow : (n : ℕ) → 2 ^ (8 * n) ≡ 256 ^ n
byte_pow zero = refl
byte_pow (suc n) =
    let bits : 8 * suc n ≡ 8 * n + 8 = omega arith in
    let more : 256 ^ suc n ≡ 256 ^ n * 256 = rw pow-suc in
    rw (bits, pow-add, byte_pow n, more)

-- as one bit moved up, which a name is short enough for
pub bound_is : (n : ℕ) → n < 8 → 1 * 2 ^ (8 * n) % 2 ^ 64 ≡ 256 ^ n
bound_is n h =
    let one : 1 * 2 ^ (8 * n) ≡ 2 ^ (8 * n) = omega arith in
    let less : 2 ^ (8 * n) < 2 ^ 64 = pow-lt {i = 8 * n} {j = 64} (omega arith) in
    rw (one, mod-eq_of_lt {n = 2 ^ (8 * n)} {m = 2 ^ 64} less, byte_pow n)
