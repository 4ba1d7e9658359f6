-- Judgements, whatever the constraints are: the first test of a list that fails, and the first row of which one does.
use Prim.Native.Nat.{ℕ, zero, suc, ◌+◌, ◌≤◌, ◌<◌}
use mathlib.Core.Bool.{Bool, true, false, true≢false}
use mathlib.Core.List.{List, [], ◌∷◌}
use mathlib.Core.Logic.{◌↔◌, ◌≢◌, ◌⊎◌, inl, inr, ⊎_elim}
use mathlib.Core.Path.{◌≡◌, refl, ◌∙◌, ap}
use native.Mathlib.Nat.{eq-or-lt_of_le, le_of_suc-le-suc}
use native.Mathlib.Omega.{arith}
use lib.ListN.{length, get_or}
use Rattle.model.specs.Constraints.{first_failed, first_or}
use Rattle.model.specs.Verdict.{Judgement, meet, break, and_row, judged}

-- ---- the first test of a list that fails

-- the first that fails stands at place m
pub record FirstFails (ts : List Bool) (m : ℕ) : Type 0 where
  pub fails : get_or ts m true ≡ false
  pub lower : (j : ℕ) → j < m → get_or ts j true ≡ true

-- the number 0 says that all pass
pub zero_pass : (k : ℕ) (ts : List Bool) → first_failed (suc k) ts ≡ 0 → (j : ℕ) → get_or ts j true ≡ true
unfolding first_or
zero_pass k [] e j = refl
zero_pass k (true ∷ ts) e zero = refl
zero_pass k (true ∷ ts) e (suc j) = zero_pass (suc k) ts e j
zero_pass k (false ∷ ts) e j = cc

-- where all pass, it is 0
pub pass_zero : (k : ℕ) (ts : List Bool) → ((j : ℕ) → j < length ts → get_or ts j true ≡ true) → first_failed k ts ≡ 0
unfolding first_or
pass_zero k [] p = refl
pass_zero k (true ∷ ts) p = pass_zero (suc k) ts (λ j h. p (suc j) (omega arith))
pass_zero k (false ∷ ts) p = cc (p 0 (omega arith))

first-cons : (ts : List Bool) (m : ℕ) → FirstFails ts m → FirstFails (true ∷ ts) (suc m)
first-cons ts m f = record { fails = f.fails; lower = lower }
  where
    lower : (j : ℕ) → j < suc m → get_or (true ∷ ts) j true ≡ true
    lower zero h = refl
    lower (suc j) h = f.lower j (le_of_suc-le-suc h)

-- another number says, counted from k, which is the first that fails
pub some_fails : (k v : ℕ) (ts : List Bool) → first_failed k ts ≡ v → 1 ≤ v → (m : ℕ) × (v ≡ k + m) × FirstFails ts m
unfolding first_or
some_fails k v [] e h = absurd (omega arith)
some_fails k v (true ∷ ts) e h =
    let (m, q, f) = some_fails (suc k) v ts e h in
    (suc m, omega arith, first-cons ts m f)
some_fails k v (false ∷ ts) e h = (0, omega arith, record { fails = refl; lower = λ j l. absurd (omega arith) })

-- where one is the first that fails, it is the number
pub fails_some : (k m : ℕ) (ts : List Bool) → FirstFails ts m → first_failed k ts ≡ k + m
unfolding first_or
fails_some k m [] f = cc f.fails
fails_some k zero (true ∷ ts) f = cc f.fails
fails_some k (suc m) (true ∷ ts) f =
    omega (arith, fails_some (suc k) m ts (record { fails = f.fails; lower = λ j h. f.lower (suc j) (omega arith) }))
fails_some k zero (false ∷ ts) f = omega arith
fails_some k (suc m) (false ∷ ts) f = cc (f.lower 0 (omega arith))

-- a test that fails is one of the list
pub fails_in : (m : ℕ) (ts : List Bool) → get_or ts m true ≡ false → m < length ts
fails_in m [] e = absurd (true≢false e)
fails_in zero (t ∷ ts) e = omega arith
fails_in (suc m) (t ∷ ts) e = omega (arith, fails_in m ts e)

-- ---- rows, by the first broken constraint of each

and_meet : (d : Judgement) (i k : ℕ) → and_row d i k ≡ meet → (d ≡ meet) × (k ≡ 0)
and_meet meet i zero e = (refl, refl)
and_meet meet i (suc k) e = (refl, cc)
and_meet (break j m) i k e = (e, cc)

meet≢break : (i k : ℕ) → meet ≢ break i k
meet≢break i k e =
    let z : ◌≡◌ {A = ℕ} 0 1 = cc in
    omega arith

and_break : (d : Judgement) (j b i k : ℕ) → and_row d j b ≡ break i k → (d ≡ break i k) ⊎ ((d ≡ meet) × (j ≡ i) × (b ≡ k) × (1 ≤ k))
and_break meet j zero i k e = absurd (meet≢break i k e)
and_break meet j (suc b) i k e =
    let q : suc b ≡ k = cc in
    inr (refl, cc, q, omega arith)
and_break (break l m) j b i k e = inl e

and_some : (i k : ℕ) → 1 ≤ k → and_row meet i k ≡ break i k
and_some i zero h = absurd (omega arith)
and_some i (suc k) h = refl

module _ (first : ℕ → ℕ) where
  -- the rows below i meet all constraints exactly if each of them does
  pub judged-zero : (i : ℕ) → (judged first i ≡ meet) ↔ ((j : ℕ) → j < i → first j ≡ 0)
  unfolding judged
  judged-zero i = (there i, back i)
    where
      there : (m : ℕ) → judged first m ≡ meet → (j : ℕ) → j < m → first j ≡ 0
      there zero e j h = absurd (omega arith)
      there (suc m) e j h =
          let (d, z) = and_meet (judged first m) m (first m) e in
          ⊎_elim (λ q. ap first q ∙ z) (there m d j) (eq-or-lt_of_le (le_of_suc-le-suc h))

      back : (m : ℕ) → ((j : ℕ) → j < m → first j ≡ 0) → judged first m ≡ meet
      back zero a = refl
      back (suc m) a = rw (back m (λ j h. a j (omega arith)), a m (omega arith))

  -- they break a constraint first at row i, and k is the first that this row breaks
  pub record Stops (i k : ℕ) : Type 0 where
    pub from : 1 ≤ k
    pub number : first i ≡ k
    pub earlier : judged first i ≡ meet

  -- the judgement of m rows names row i and constraint k exactly if row i is one of them and they stop there
  pub judged_stops : (m i k : ℕ) → (judged first m ≡ break i k) ↔ ((i < m) × Stops i k)
  unfolding judged
  judged_stops m i k = (there m, back m)
    where
      there : (m : ℕ) → judged first m ≡ break i k → (i < m) × Stops i k
      there zero e = absurd (meet≢break i k e)
      there (suc m) e =
          ⊎_elim
          (λ d. (omega (arith, (there m d).0), (there m d).1))
          (λ (d, p, q, h). (omega arith, record { from = h; number = rw (← p) q; earlier = rw (← p) d }))
          (and_break (judged first m) m (first m) i k e)

      back : (m : ℕ) → (i < m) × Stops i k → judged first m ≡ break i k
      back zero (h, s) = absurd (omega arith)
      back (suc m) (h, s) =
          ⊎_elim (λ q. rw (← q, s.earlier, s.number, and_some i k s.from)) (λ l. rw (back m (l, s))) (eq-or-lt_of_le (le_of_suc-le-suc h))

-- it looks at the rows below i alone
pub judged_local : (first other : ℕ → ℕ) (i : ℕ) → ((j : ℕ) → j < i → first j ≡ other j) → judged first i ≡ judged other i
unfolding judged
judged_local first other zero h = refl
judged_local first other (suc i) h = rw (judged_local first other i (λ j l. h j (omega arith)), h i (omega arith))
