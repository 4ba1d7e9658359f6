-- Cells side by side as one number: the cells of two groups, one behind the other.
use Prim.Native.Nat.{ℕ, ◌+◌, ◌*◌, ◌^◌, ◌≤◌}
use mathlib.Core.Bool.{true}
use mathlib.Core.List.{List, [], ◌∷◌, ◌++◌}
use mathlib.Core.Logic.{◌≢◌, ◌⊎◌, inl, inr, ⊎_elim}
use mathlib.Core.Path.{◌≡◌, refl, sym}
use native.Mathlib.Nat.{add_assoc, zero-add, mul_assoc, one-le-pow, mul-le-mul_left, mul-le-mul_right}
use native.Mathlib.Omega.{arith}
use borrow.Author.Tests.{eqb-true}
use Rattle.std.proofs.Common.{pow-add}
use lib.Dec.{eqb}
use Rattle.number.specs.Cells.{total, Fit}
use Rattle.number.proofs.TestLaws.{either}
use Rattle.row.specs.Group.{joined, at_once}

-- the widths of two groups
pub total_append : (ws us : List ℕ) → total (ws ++ us) ≡ total ws + total us
total_append [] us = sym (zero-add (total us))
total_append (w ∷ ws) us = rw (total_append ws us, add_assoc)

-- values that fit, one group behind the other
pub fit_append : (ws us vs ys : List ℕ) → Fit ws vs → Fit us ys → Fit (ws ++ us) (vs ++ ys)
unfolding Fit
fit_append [] us [] ys f g = g
fit_append [] us (v ∷ vs) ys f g = absurd f
fit_append (w ∷ ws) us [] ys f g = absurd f
fit_append (w ∷ ws) us (v ∷ vs) ys f g = (f.0, fit_append ws us vs ys f.1 g)

-- the number of two groups
pub joined_append : (ws us vs ys : List ℕ) (n : ℕ) → Fit ws vs → joined (ws ++ us) (vs ++ ys) n ≡ joined us ys (joined ws vs n)
unfolding joined Fit
joined_append [] us [] ys n f = refl
joined_append [] us (v ∷ vs) ys n f = absurd f
joined_append (w ∷ ws) us [] ys n f = absurd f
joined_append (w ∷ ws) us (v ∷ vs) ys n f = joined_append ws us vs ys (n * 256 ^ w + v) f.1

-- it has no more bytes than the number in front and its cells
pub joined_below : (ws vs : List ℕ) (n : ℕ) → Fit ws vs → joined ws vs n + 1 ≤ (n + 1) * 256 ^ total ws
unfolding joined Fit
joined_below [] [] n f = omega arith
joined_below [] (v ∷ vs) n f = absurd f
joined_below (w ∷ ws) [] n f = absurd f
joined_below (w ∷ ws) (v ∷ vs) n f =
    let rest = joined_below ws vs (n * 256 ^ w + v) f.1 in
    let first : n * 256 ^ w + v + 1 ≤ (n + 1) * 256 ^ w = omega (arith, f.0) in
    let more = mul-le-mul_right (256 ^ total ws) first in
    rw (pow-add, ← mul_assoc) (omega (arith, rest, more))

-- ---- room for two groups

-- is room for the first
pub room_first : (ws us : List ℕ) (n k : ℕ) → (n + 1) * 256 ^ total (ws ++ us) ≤ k → (n + 1) * 256 ^ total ws ≤ k
room_first ws us n k h =
    let both : (n + 1) * 256 ^ total (ws ++ us) ≡ (n + 1) * 256 ^ total ws * 256 ^ total us = rw (total_append ws us, pow-add) (sym (mul_assoc (n + 1) (256 ^ total ws) (256 ^ total us))) in
    let more = mul-le-mul_left ((n + 1) * 256 ^ total ws) (one-le-pow (total us) 256 (omega arith)) in
    omega (arith, h, both, more)

-- and, behind it, for the second
pub room_second : (ws us vs : List ℕ) (n k : ℕ) → Fit ws vs → (n + 1) * 256 ^ total (ws ++ us) ≤ k → (joined ws vs n + 1) * 256 ^ total us ≤ k
room_second ws us vs n k f h =
    let both : (n + 1) * 256 ^ total (ws ++ us) ≡ (n + 1) * 256 ^ total ws * 256 ^ total us = rw (total_append ws us, pow-add) (sym (mul_assoc (n + 1) (256 ^ total ws) (256 ^ total us))) in
    let less = mul-le-mul_right (256 ^ total us) (joined_below ws vs n f) in
    omega (arith, h, both, less)

-- ---- numbers of two, four or eight bytes

-- which of them
once_cases : (w : ℕ) → at_once w ≡ true → (w ≡ 2) ⊎ ((w ≡ 4) ⊎ (w ≡ 8))
once_cases w h =
    ⊎_elim (λ e. inl (eqb-true w 2 e))
    (λ more. inr (⊎_elim (λ e. inl (eqb-true w 4 e)) (λ e. inr (eqb-true w 8 e)) (either (eqb w 4) (eqb w 8) more)))
    (either (eqb w 2) _ h)

-- at most eight
pub once_few : (w : ℕ) → at_once w ≡ true → w ≤ 8
once_few w h = ⊎_elim (λ e. omega (arith, e)) (⊎_elim (λ e. omega (arith, e)) (λ e. omega (arith, e))) (once_cases w h)

-- and eight, if not the others
pub once_eight : (w : ℕ) → at_once w ≡ true → w ≢ 2 → w ≢ 4 → w ≡ 8
once_eight w h n m = ⊎_elim (λ e. absurd (n e)) (⊎_elim (λ e. absurd (m e)) (λ e. e)) (once_cases w h)
