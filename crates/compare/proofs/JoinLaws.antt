-- Cells that stand side by side are compared as one number: a number in two parts is another in two such parts where each part is.
use Prim.Native.Nat.{ℕ, ◌+◌, ◌*◌, ◌%◌, ◌^◌, ◌≤◌, ◌<◌}
use mathlib.Core.Bool.{Bool, true, ◌&&◌, and_assoc, and-true}
use mathlib.Core.List.{List, [], ◌∷◌}
use mathlib.Core.Path.{◌≡◌, refl, sym, ◌∙◌, ap}
use native.Mathlib.Nat.{add-zero, mul-one, mul_assoc, eq_of_mul-eq-mul_right}
use native.Mathlib.Omega.{arith}
use Rattle.std.proofs.Common.{pow-add}
use borrow.Author.Tests.{eq-eqb, eqb-true}
use lib.Dec.{eqb}
use lib.ListN.{length}
use Rattle.number.specs.Cells.{total, decode, Fit}
use Rattle.number.specs.Num.{num, AllBytes}
use Rattle.number.proofs.NumLaws.{num-add, num-lt}
use Rattle.number.proofs.TestLaws.{same_test, both, both_intro}
use Rattle.number.proofs.WholeLaws.{push_mod}
use Rattle.model.specs.Constraints.{equal}
use Rattle.row.specs.Group.{joined}

-- two numbers in two parts each, the last below k: they are equal where both parts are
parts-equal : (k x y u v : ℕ) → y < k → v < k → x * k + y ≡ u * k + v → (x ≡ u) × (y ≡ v)
parts-equal k x y u v hy hv e =
    let last : y ≡ v = sym (push_mod k x y (x * k + y) refl hy) ∙ ap (λ (n : ℕ). n % k) e ∙ push_mod k u v (u * k + v) refl hv in
    (eq_of_mul-eq-mul_right k (omega arith) x u (omega (arith, e, last)), last)

pub eqb-parts : (k x y u v : ℕ) → y < k → v < k → eqb (x * k + y) (u * k + v) ≡ (eqb x u && eqb y v)
eqb-parts k x y u v hy hv = same_test (eqb (x * k + y) (u * k + v)) (eqb x u && eqb y v) there back
  where
    there : eqb (x * k + y) (u * k + v) ≡ true → (eqb x u && eqb y v) ≡ true
    there e =
        let q = parts-equal k x y u v hy hv (eqb-true (x * k + y) (u * k + v) e) in
        both_intro (eqb x u) (eqb y v) (eq-eqb x u q.0) (eq-eqb y v q.1)

    back : (eqb x u && eqb y v) ≡ true → eqb (x * k + y) (u * k + v) ≡ true
    back e =
        let h = both (eqb x u) (eqb y v) e in
        eq-eqb (x * k + y) (u * k + v) (rw (eqb-true x u h.0, eqb-true y v h.1))

-- cells one after the other, and the number in front of them, are compared as one number
group-is : (ws vs l : List ℕ) (p n m : ℕ) → AllBytes l → p + total ws ≤ length l → Fit ws vs
    → eqb (n * 256 ^ total ws + num l p (total ws)) (joined ws vs m) ≡ (eqb n m && equal (decode ws l p) vs)
unfolding num joined Fit decode equal
group-is [] [] l p n m bytes room f = rw (mul-one, add-zero) (sym (and-true (eqb n m)))
group-is [] (v ∷ vs) l p n m bytes room f = absurd f
group-is (w ∷ ws) [] l p n m bytes room f = absurd f
group-is (w ∷ ws) (v ∷ vs) l p n m bytes room f =
    let cut : n * 256 ^ (w + total ws) + num l p (w + total ws) ≡ (n * 256 ^ w + num l p w) * 256 ^ total ws + num l (p + w) (total ws)
    = rw (num-add l p w (total ws), pow-add) (omega (arith, mul_assoc n (256 ^ w) (256 ^ total ws))) in
    let rest = group-is ws vs l (p + w) (n * 256 ^ w + num l p w) (m * 256 ^ w + v) bytes (omega arith) f.1 in
    let first = eqb-parts (256 ^ w) n (num l p w) m v (num-lt l p w bytes (omega arith)) f.0 in
    ap (λ (k : ℕ). eqb k (joined ws vs (m * 256 ^ w + v))) cut ∙ rest ∙ ap (λ (b : Bool). b && equal (decode ws l (p + w)) vs) first
    ∙ and_assoc (eqb n m) (eqb (num l p w) v) (equal (decode ws l (p + w)) vs)

-- with no number in front
pub group_same : (ws vs l : List ℕ) (p : ℕ) → AllBytes l → p + total ws ≤ length l → Fit ws vs
    → eqb (num l p (total ws)) (joined ws vs 0) ≡ equal (decode ws l p) vs
group_same ws vs l p bytes room f =
    let none : num l p (total ws) ≡ 0 * 256 ^ total ws + num l p (total ws) = omega arith in
    ap (λ (k : ℕ). eqb k (joined ws vs 0)) none ∙ group-is ws vs l p 0 0 bytes room f

-- two cells of v and w bytes, the first of them o bytes after p, as one number
pub side_by_side : (l : List ℕ) (p o v w x y : ℕ) → AllBytes l → p + o + (v + w) ≤ length l → y < 256 ^ w
    → eqb (num l (p + o) (v + w)) (x * 256 ^ w + y) ≡ (eqb (num l (p + o) v) x && eqb (num l (p + (o + v)) w) y)
side_by_side l p o v w x y bytes room h =
    let place : p + (o + v) ≡ p + o + v = omega arith in
    let below = num-lt l (p + o + v) w bytes (omega arith) in
    rw (num-add l (p + o) v w, place) (eqb-parts (256 ^ w) (num l (p + o) v) (num l (p + o + v) w) x y below h)
