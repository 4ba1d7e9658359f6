-- The sum of a small number and one of 17 bytes, part by part.
use Rattle.std.proofs.Common.{◌≡◌, ℕ, ◌+◌, ◌*◌, ◌%◌, ◌^◌, ◌<◌, Bool, true, false, ◌&&◌, eqb, ltb, refl, sym, ap, ◌∙◌, arith, ltb-false, ltb-true, eq-eqb, eqb-true}
use mathlib.Core.Bool.{and_assoc}
use Rattle.std.specs.Bool.{FalseIff}
use Rattle.std.specs.Int.{from_bool}
use Rattle.number.specs.Whole.{val}
use Rattle.number.specs.declared.wide.Wide.{Wide}
use Rattle.number.proofs.TestLaws.{same_test, both, both_intro}
use Rattle.model.specs.Tests.{bit}

-- a sum is its part and what the part carries
pub carries : (x n v : ℕ) (t : Bool) → x < 2 ^ 64 → n < 2 ^ 64 → v ≡ (x + n) % 2 ^ 64 → FalseIff t (x + n < 2 ^ 64) → x + n ≡ from_bool t * 2 ^ 64 + v
carries x n v true hx hn e f = omega (arith, f)
carries x n v false hx hn e f = omega (arith, f)

-- a is n + b, where the sums of the parts and what they carry are known
pub eqb_sum : (a b : Wide) (n lo hi f g : ℕ) → a.hi < 2 ^ 64 → a.lo < 2 ^ 64 → lo < 2 ^ 64 → hi < 2 ^ 64
    → b.lo + n ≡ f * 2 ^ 64 + lo → b.hi + f ≡ g * 2 ^ 64 + hi
    → ((eqb lo a.lo && eqb hi a.hi) && eqb (b.top + g) a.top) ≡ eqb (n + val b) (val a)
unfolding val
eqb_sum a b n lo hi f g ah al hlo hhi e1 e2 =
    same_test ((eqb lo a.lo && eqb hi a.hi) && eqb (b.top + g) a.top) (eqb (n + val b) (val a)) there back
  where
    there : ((eqb lo a.lo && eqb hi a.hi) && eqb (b.top + g) a.top) ≡ true → eqb (n + val b) (val a) ≡ true
    there e =
        let (p, r) = both (eqb lo a.lo && eqb hi a.hi) (eqb (b.top + g) a.top) e in
        let (p, q) = both (eqb lo a.lo) (eqb hi a.hi) p in
        eq-eqb (n + val b) (val a) (omega (arith, eqb-true lo a.lo p, eqb-true hi a.hi q, eqb-true (b.top + g) a.top r))

    back : eqb (n + val b) (val a) ≡ true → ((eqb lo a.lo && eqb hi a.hi) && eqb (b.top + g) a.top) ≡ true
    back e =
        let q = eqb-true (n + val b) (val a) e in
        both_intro (eqb lo a.lo && eqb hi a.hi) (eqb (b.top + g) a.top)
        (both_intro (eqb lo a.lo) (eqb hi a.hi) (eq-eqb lo a.lo (omega arith)) (eq-eqb hi a.hi (omega arith)))
        (eq-eqb (b.top + g) a.top (omega arith))

-- ---- the carries told from the sum's parts

-- the carry out of a part is 1 just where the sum's part is below what was added
carry : (n y v : ℕ) → n < 2 ^ 64 → y < 2 ^ 64 → (n + y) % 2 ^ 64 ≡ v → n + y ≡ bit (ltb v n) * 2 ^ 64 + v
carry n y v hn hy e = by (ltb v n) refl
  where
    by : (t : Bool) → ltb v n ≡ t → n + y ≡ bit t * 2 ^ 64 + v
    by true f = omega (arith, ltb-true v n f)
    by false f = omega (arith, ltb-false v n f)

-- the sum part by part is the sum of the numbers
plus_parts : (n x y u v : ℕ) → n < 2 ^ 64 → y < 2 ^ 64 → v < 2 ^ 64
    → (eqb ((n + y) % 2 ^ 64) v && eqb (bit (ltb v n) + x) u) ≡ eqb (n + (x * 2 ^ 64 + y)) (u * 2 ^ 64 + v)
plus_parts n x y u v hn hy hv =
    same_test (eqb ((n + y) % 2 ^ 64) v && eqb (bit (ltb v n) + x) u) (eqb (n + (x * 2 ^ 64 + y)) (u * 2 ^ 64 + v)) there back
  where
    there : (eqb ((n + y) % 2 ^ 64) v && eqb (bit (ltb v n) + x) u) ≡ true → eqb (n + (x * 2 ^ 64 + y)) (u * 2 ^ 64 + v) ≡ true
    there e =
        let (p, q) = both (eqb ((n + y) % 2 ^ 64) v) (eqb (bit (ltb v n) + x) u) e in
        let f = carry n y v hn hy (eqb-true ((n + y) % 2 ^ 64) v p) in
        eq-eqb (n + (x * 2 ^ 64 + y)) (u * 2 ^ 64 + v) (omega (arith, eqb-true (bit (ltb v n) + x) u q))

    back : eqb (n + (x * 2 ^ 64 + y)) (u * 2 ^ 64 + v) ≡ true → (eqb ((n + y) % 2 ^ 64) v && eqb (bit (ltb v n) + x) u) ≡ true
    back e =
        let q = eqb-true (n + (x * 2 ^ 64 + y)) (u * 2 ^ 64 + v) e in
        let r : (n + y) % 2 ^ 64 ≡ v = omega arith in
        let f = carry n y v hn hy r in
        both_intro (eqb ((n + y) % 2 ^ 64) v) (eqb (bit (ltb v n) + x) u)
        (eq-eqb ((n + y) % 2 ^ 64) v r) (eq-eqb (bit (ltb v n) + x) u (omega arith))

-- a is n + b, by the three parts: each but the last takes on what the part after it carries
pub eqb_plus : (a : Wide) (n : ℕ) (b : Wide) → a.hi < 2 ^ 64 → a.lo < 2 ^ 64 → b.hi < 2 ^ 64 → b.lo < 2 ^ 64 → n < 2 ^ 64
    → ((eqb ((n + b.lo) % 2 ^ 64) a.lo && eqb ((bit (ltb a.lo n) + b.hi) % 2 ^ 64) a.hi)
    && eqb (bit (ltb a.hi (bit (ltb a.lo n))) + b.top) a.top) ≡ eqb (n + val b) (val a)
unfolding val
eqb_plus a n b ah al bh bl hn =
    let c = bit (ltb a.lo n) in
    and_assoc (eqb ((n + b.lo) % 2 ^ 64) a.lo) (eqb ((c + b.hi) % 2 ^ 64) a.hi) (eqb (bit (ltb a.hi c) + b.top) a.top)
    ∙ ap (λ (t : Bool). eqb ((n + b.lo) % 2 ^ 64) a.lo && t) (plus_parts c b.top b.hi a.top a.hi (bit-lt (ltb a.lo n)) bh ah)
    ∙ plus_parts n (b.top * 2 ^ 64 + b.hi) b.lo (a.top * 2 ^ 64 + a.hi) a.lo hn bl al
  where
    bit-lt : (t : Bool) → bit t < 2 ^ 64
    bit-lt true = omega arith
    bit-lt false = omega arith

-- the code's test of the parts, with its carries known, is this one
pub carried : (a b : Wide) (n lo hi f g : ℕ) → a.hi < 2 ^ 64 → a.lo < 2 ^ 64 → b.hi < 2 ^ 64 → b.lo < 2 ^ 64 → n < 2 ^ 64 → lo < 2 ^ 64 → hi < 2 ^ 64
    → b.lo + n ≡ f * 2 ^ 64 + lo → b.hi + f ≡ g * 2 ^ 64 + hi
    → ((eqb lo a.lo && eqb hi a.hi) && eqb (b.top + g) a.top)
    ≡ ((eqb ((n + b.lo) % 2 ^ 64) a.lo && eqb ((bit (ltb a.lo n) + b.hi) % 2 ^ 64) a.hi)
    && eqb (bit (ltb a.hi (bit (ltb a.lo n))) + b.top) a.top)
carried a b n lo hi f g ah al bh bl hn hlo hhi e1 e2 = eqb_sum a b n lo hi f g ah al hlo hhi e1 e2 ∙ sym (eqb_plus a n b ah al bh bl hn)
