-- Laws of the number that a value of 17 bytes holds. `omega` takes no number past 38 digits, so each is one law at base 2 ^ 64,
-- used twice: the last part, and the two parts before it as one number.
use Prim.Native.Nat.{ℕ, ◌+◌, ◌*◌, ◌-◌, ◌/◌, ◌%◌, ◌^◌, ◌<◌, ◌≤◌}
use mathlib.Core.Bool.{true, ◌&&◌}
use mathlib.Core.List.{List, ◌++◌, append_assoc}
use mathlib.Core.Logic.{⊎_elim}
use mathlib.Core.Path.{◌≡◌, sym, ap, ◌∙◌}
use native.Mathlib.Nat.{add-mul, mul_assoc, mul_left_comm, mul-le-mul_right, suc-mul, zero-mul, one-mul, mod-eq_of_lt, mul-add-mod_self_right, eq-zero-or-pos}
use native.Mathlib.Omega.{arith}
use lib.Dec.{eqb}
use Rattle.std.specs.Ordering.{nat_cmp, ordering_then}
use Rattle.std.proofs.lemmas.Bool.Decides.{nat_tests}
use borrow.Author.Tests.{eq-eqb, eqb-true}
use Rattle.number.specs.Num.{num, be}
use Rattle.number.specs.Whole.{val, wide}
use Rattle.number.specs.declared.wide.Wide.{Wide}
use Rattle.number.proofs.NumLaws.{num-add, be-add}
use Rattle.number.proofs.TestLaws.{same_test, both, both_intro}

-- ---- a number by its parts

-- a number in two parts, the last below 2^64, has no other parts
pub parts_of : (v x y : ℕ) → x * 2 ^ 64 + y ≡ v → y < 2 ^ 64 → (x ≡ v / 2 ^ 64) × (y ≡ v % 2 ^ 64)
parts_of v x y e h = omega arith

-- and these are its parts
pub parts_join : (v : ℕ) → v / 2 ^ 64 * 2 ^ 64 + v % 2 ^ 64 ≡ v
parts_join v = omega arith

-- the value of 17 bytes of a number holds it
pub val-wide : (v : ℕ) → val (wide v) ≡ v
unfolding val wide
val-wide v = rw (parts_join (v / 2 ^ 64), parts_join v)

-- a value of 17 bytes is that of the number that it holds
pub wide_is : (w : Wide) (v : ℕ) → val w ≡ v → w.hi < 2 ^ 64 → w.lo < 2 ^ 64 → w ≡ wide v
unfolding val wide
wide_is w v e h l =
    let last = parts_of v (w.top * 2 ^ 64 + w.hi) w.lo e l in
    let first = parts_of (v / 2 ^ 64) w.top w.hi last.0 h in
    λ i. record { top = first.0 i; hi = first.1 i; lo = last.1 i }

-- ---- two numbers in two parts each: equal, and in order

parts-equal : {x y u v : ℕ} → y < 2 ^ 64 → v < 2 ^ 64 → x * 2 ^ 64 + y ≡ u * 2 ^ 64 + v → (x ≡ u) × (y ≡ v)
parts-equal hy hv e = omega arith

eqb-parts : (x y u v : ℕ) → y < 2 ^ 64 → v < 2 ^ 64 → (eqb x u && eqb y v) ≡ eqb (x * 2 ^ 64 + y) (u * 2 ^ 64 + v)
eqb-parts x y u v hy hv = grind (arith, nat_tests)

cmp-parts : (x y u v : ℕ) → y < 2 ^ 64 → v < 2 ^ 64 → ordering_then (nat_cmp x u) (nat_cmp y v) ≡ nat_cmp (x * 2 ^ 64 + y) (u * 2 ^ 64 + v)
cmp-parts x y u v hy hv = grind (arith, nat_tests)

module _ (a b : Wide) (ah : a.hi < 2 ^ 64) (al : a.lo < 2 ^ 64) (bh : b.hi < 2 ^ 64) (bl : b.lo < 2 ^ 64) where
  -- a number has one value of 17 bytes
  pub val_injective : val a ≡ val b → a ≡ b
  unfolding val
  val_injective e =
      let last = parts-equal al bl e in
      let first = parts-equal ah bh last.0 in
      λ i. record { top = first.0 i; hi = first.1 i; lo = last.1 i }

  -- the tests part by part are the tests of the numbers
  heads : (eqb a.top b.top && eqb a.hi b.hi) ≡ eqb (a.top * 2 ^ 64 + a.hi) (b.top * 2 ^ 64 + b.hi)
  heads = eqb-parts a.top a.hi b.top b.hi ah bh

  pub eqb-val : ((eqb a.top b.top && eqb a.hi b.hi) && eqb a.lo b.lo) ≡ eqb (val a) (val b)
  unfolding val
  eqb-val = rw heads (eqb-parts (a.top * 2 ^ 64 + a.hi) a.lo (b.top * 2 ^ 64 + b.hi) b.lo al bl)

  pub cmp-val : ordering_then (ordering_then (nat_cmp a.top b.top) (nat_cmp a.hi b.hi)) (nat_cmp a.lo b.lo) ≡ nat_cmp (val a) (val b)
  unfolding val
  cmp-val =
      rw (cmp-parts a.top a.hi b.top b.hi ah bh)
      (cmp-parts (a.top * 2 ^ 64 + a.hi) a.lo (b.top * 2 ^ 64 + b.hi) b.lo al bl)

-- ---- a byte more

-- 256 times a number in two parts, plus a number: what the last part loses goes to the first
shift : (x y q : ℕ) → 256 * (x * 2 ^ 64 + y) + q ≡ (256 * x + y / 2 ^ 56) * 2 ^ 64 + (y % 2 ^ 56 * 256 + q)
shift x y q = omega arith

top_apart : (k t q h l : ℕ) → ((256 * t + q) * k + h) * k + l ≡ t * (256 * (k * k)) + ((q * k + h) * k + l)
top_apart k t q h l = simp (add-mul, mul_assoc, mul_left_comm t 256 (k * k)) (omega arith)

-- the same at three parts, with what the first loses kept apart
pub shifts : (p r : Wide) (b : ℕ) → r.top ≡ p.hi / 2 ^ 56 → r.hi ≡ p.hi % 2 ^ 56 * 256 + p.lo / 2 ^ 56 → r.lo ≡ p.lo % 2 ^ 56 * 256 + b
    → p.top * 256 ^ 17 + val r ≡ 256 * val p + b
unfolding val
shifts p r b et eh el =
    rw (et, eh, el, shift (p.top * 2 ^ 64 + p.hi) p.lo b, shift p.top p.hi (p.lo / 2 ^ 56))
    (sym (top_apart (2 ^ 64) p.top (p.hi / 2 ^ 56) (p.hi % 2 ^ 56 * 256 + p.lo / 2 ^ 56) (p.lo % 2 ^ 56 * 256 + b)))

part-lt : (k m x y : ℕ) → x < m → y < k → x * k + y < m * k
part-lt k m x y hx hy = omega (arith, mul-le-mul_right k hx, suc-mul x k)

-- 17 bytes hold a number below 256 ^ 17
pub val-lt : (a : Wide) → a.top < 256 → a.hi < 2 ^ 64 → a.lo < 2 ^ 64 → val a < 256 ^ 17
unfolding val
val-lt a ht hh hl = part-lt (2 ^ 64) (256 * 2 ^ 64) (a.top * 2 ^ 64 + a.hi) a.lo (part-lt (2 ^ 64) 256 a.top a.hi ht hh) hl

-- the test of a number below w against one that may have more digits
pub eqb-below : (w t r n a : ℕ) → t * w + r ≡ n → a < w → (eqb t 0 && eqb a r) ≡ eqb a n
eqb-below w t r n a e h = same_test (eqb t 0 && eqb a r) (eqb a n) there back
  where
    there : (eqb t 0 && eqb a r) ≡ true → eqb a n ≡ true
    there f =
        let g = both (eqb t 0) (eqb a r) f in
        let z : t ≡ 0 = eqb-true t 0 g.0 in
        eq-eqb a n (omega (arith, eqb-true a r g.1, rw (z, zero-mul) at e))

    back : eqb a n ≡ true → (eqb t 0 && eqb a r) ≡ true
    back f =
        let q = eqb-true a n f in
        ⊎_elim (λ z. both_intro (eqb t 0) (eqb a r) (eq-eqb t 0 z) (eq-eqb a r (omega (arith, rw (z, zero-mul) at e))))
        (λ p. absurd (omega (arith, mul-le-mul_right w p, one-mul w)))
        (eq-zero-or-pos t)

-- what is left where the first byte has no room
pub push_mod : (w t r n : ℕ) → t * w + r ≡ n → r < w → n % w ≡ r
push_mod w t r n e h = ap (λ (x : ℕ). x % w) (sym e) ∙ mul-add-mod_self_right t w r ∙ mod-eq_of_lt h

-- the second part of what is shifted stays a part
pub shifted_fits : (x y : ℕ) → y < 2 ^ 64 → x % 2 ^ 56 * 256 + y / 2 ^ 56 < 2 ^ 64
shifted_fits x y h = omega arith

-- ---- less a small number

-- what is taken from the last part, or, where that is too small, from the parts before it
pub minus_last : (x y n : ℕ) → n ≤ y → x * 2 ^ 64 + (y - n) ≡ x * 2 ^ 64 + y - n
minus_last x y n h = omega arith

-- with 1 borrowed from the part before
pub minus_borrow : (x z y n : ℕ) → x ≡ z + 1 → y < n → n < 2 ^ 64 → z * 2 ^ 64 + (2 ^ 64 - 1 - (n - y) + 1) ≡ x * 2 ^ 64 + y - n
minus_borrow x z y n e h k = omega arith

-- 0 where there is nothing to borrow
pub minus_all : (x y n : ℕ) → x ≡ 0 → y < n → 0 ≡ x * 2 ^ 64 + y - n
minus_all x y n e h = omega arith

-- ---- the bytes

-- the bytes of a value are those of its three parts
pub be-val : (a : Wide) → a.hi < 2 ^ 64 → a.lo < 2 ^ 64 → be 17 (val a) ≡ be 1 a.top ++ (be 8 a.hi ++ be 8 a.lo)
unfolding val
be-val a h l =
    be-add 9 8 (a.top * 2 ^ 64 + a.hi) a.lo l ∙ ap (λ (b : List ℕ). b ++ be 8 a.lo) (be-add 1 8 a.top a.hi h)
    ∙ append_assoc (be 1 a.top) (be 8 a.hi) (be 8 a.lo)

-- the number in 17 bytes, by the three parts that are read
pub val-num : (l : List ℕ) (p : ℕ) (a : Wide) → a.top ≡ num l p 1 → a.hi ≡ num l (p + 1) 8 → a.lo ≡ num l (p + 9) 8 → val a ≡ num l p 17
unfolding val
val-num l p a top hi lo =
    (λ i. (top i * 2 ^ 64 + hi i) * 2 ^ 64 + lo i)
    ∙ ap (λ (x : ℕ). x * 2 ^ 64 + num l (p + 9) 8) (sym (num-add l p 1 8))
    ∙ sym (num-add l p 9 8)
