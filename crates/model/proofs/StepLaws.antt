-- How rows fall apart into empty rows and cycles, by STAMP and CT alone: once over the last CT of each cycle, whatever its length.
use Prim.Native.Nat.{ℕ, zero, suc, ◌+◌, ◌<◌, ◌≤◌}
use mathlib.Core.Bool.{Bool, true, false, not, ◌||◌}
use mathlib.Core.Logic.{◌≢◌, ◌⊎◌, inl, inr, ⊎_elim}
use mathlib.Core.Path.{◌≡◌, sym, ◌∙◌, ap}
use native.Mathlib.Decide.{ℕ_discrete}
use native.Mathlib.Nat.{add-suc, add-zero, le_of_suc-le}
use native.Mathlib.Omega.{arith}
use borrow.Author.Tests.{eqb-true, eq-eqb, ne_eqb, leb-true}
use lib.Dec.{eqb}
use Rattle.model.specs.Steps.{stamp_moves, ct_moves}
use Rattle.model.specs.Tests.{pick}

-- ---- one step

-- after an empty row STAMP is 0 or 1
pub stamp_after_empty : (ct last t : ℕ) → stamp_moves 0 ct last t ≡ true → t ≤ 1
unfolding stamp_moves
stamp_after_empty ct last t h = leb-true t 1 h

-- inside a cycle it is as before
pub stamp_inside : (s ct last t : ℕ) → s ≢ 0 → ct ≢ last → stamp_moves s ct last t ≡ true → t ≡ s
unfolding stamp_moves
stamp_inside s ct last t z k h = eqb-true t s (rw (ne_eqb s 0 z, ne_eqb ct last k) at h)

-- after its last row it is one more
pub stamp_over : (s ct last t : ℕ) → s ≢ 0 → ct ≡ last → stamp_moves s ct last t ≡ true → t ≡ suc s
unfolding stamp_moves
stamp_over s ct last t z k h = eqb-true t (s + 1) (rw (ne_eqb s 0 z, eq-eqb ct last k) at h) ∙ omega arith

-- where STAMP is new, CT is 0
pub ct_new : (s ct t u : ℕ) → t ≢ s → ct_moves s ct t u ≡ true → u ≡ 0
unfolding ct_moves
ct_new s ct t u k h = go (eqb t 0) (eqb-true u (pick (eqb t 0 || not (eqb t s)) 0 (ct + 1)) h)
  where
    go : (z : Bool) → u ≡ pick (z || not (eqb t s)) 0 (ct + 1) → u ≡ 0
    go true e = e
    go false e = rw (ne_eqb t s k) at e

-- inside a cycle it is one more than before
pub ct_inside : (s ct t u : ℕ) → t ≢ 0 → t ≡ s → ct_moves s ct t u ≡ true → u ≡ suc ct
unfolding ct_moves
ct_inside s ct t u z k h = eqb-true u (ct + 1) (rw (ne_eqb t 0 z, eq-eqb t s k) at h) ∙ omega arith

-- where CT is not 0, STAMP is as before
pub same_stamp_lem : (s ct t u : ℕ) → u ≢ 0 → ct_moves s ct t u ≡ true → t ≡ s
same_stamp_lem s ct t u z h = go (ℕ_discrete t s)
  where
    go : Dec (t ≡ s) → t ≡ s
    go (yes e) = e
    go (no e) = absurd (z (ct_new s ct t u e h))

-- ---- rows

-- n rows whose STAMP and CT move as they should, where `last` is the last CT of the cycle that a row belongs to
pub record Steps (n : ℕ) (stamp ct last : ℕ → ℕ) : Type 0 where
  pub stamps : (i : ℕ) → suc i < n → stamp_moves (stamp i) (ct i) (last i) (stamp (suc i)) ≡ true
  pub cts : (i : ℕ) → suc i < n → ct_moves (stamp i) (ct i) (stamp (suc i)) (ct (suc i)) ≡ true
  pub same : (i : ℕ) → suc i < n → ct (suc i) ≢ 0 → last (suc i) ≡ last i
  pub whole : (i : ℕ) → suc i ≡ n → stamp i ≢ 0 → ct i ≡ last i

module _ (n : ℕ) (stamp ct last : ℕ → ℕ) (steps : Steps n stamp ct last) where
  -- a cycle starts at p
  pub record Start (p : ℕ) : Type 0 where
    pub fits : p < n
    pub used : stamp p ≢ 0
    pub first : ct p ≡ 0

  -- row i of the cycle that starts at p
  pub record Run (p i : ℕ) : Type 0 where
    pub fits : p + i < n
    pub same_stamp : stamp (p + i) ≡ stamp p
    pub place : ct (p + i) ≡ i
    pub same_last : last (p + i) ≡ last p

  -- within a cycle there is a next row
  more : (p : ℕ) → p < n → stamp p ≢ 0 → ct p ≢ last p → suc p < n
  more p h s k = go (ℕ_discrete (suc p) n)
    where
      go : Dec (suc p ≡ n) → suc p < n
      go (yes e) = absurd (k (steps.whole p e s))
      go (no e) = omega arith

  run_next : (p i : ℕ) → Start p → suc i ≤ last p → Run p i → Run p (suc i)
  run_next p i b l u =
      let s : stamp (p + i) ≢ 0 = λ z. b.used (sym u.same_stamp ∙ z) in
      let k : ct (p + i) ≢ last (p + i) = λ e. absurd (omega (arith, u.place, u.same_last)) in
      let f : suc (p + i) < n = more (p + i) u.fits s k in
      let t : stamp (suc (p + i)) ≡ stamp (p + i) = stamp_inside _ _ _ _ s k (steps.stamps (p + i) f) in
      let c : ct (suc (p + i)) ≡ suc (ct (p + i)) = ct_inside _ _ _ _ (λ z. s (sym t ∙ z)) t (steps.cts (p + i) f) in
      record {
        fits = rw add-suc f;
        same_stamp = rw add-suc (t ∙ u.same_stamp);
        place = rw add-suc (c ∙ ap suc u.place);
        same_last = rw add-suc (steps.same (p + i) f (λ z. absurd (omega arith)) ∙ u.same_last);
      }

  -- a cycle that starts goes on up to its last CT
  pub run : (p : ℕ) → Start p → (i : ℕ) → i ≤ last p → Run p i
  run p b zero l = record { fits = rw add-zero b.fits; same_stamp = rw add-zero; place = rw add-zero b.first; same_last = rw add-zero }
  run p b (suc i) l = run_next p i b l (run p b i (le_of_suc-le l))

  -- what is as before inside a cycle is as in its first row
  pub steady : {A : Type 0} (f : ℕ → A) → ((i : ℕ) → suc i < n → ct (suc i) ≢ 0 → f (suc i) ≡ f i)
      → (p : ℕ) → Start p → (i : ℕ) → i ≤ last p → f (p + i) ≡ f p
  steady f h p b zero l = rw add-zero
  steady f h p b (suc i) l =
      let u : Run p (suc i) = run p b (suc i) l in
      rw add-suc (h (p + i) (rw add-suc at u.fits) (λ z. absurd (omega (arith, rw add-suc at u.place))) ∙ steady f h p b i (le_of_suc-le l))

  -- at p a cycle with the stamp s starts, or the rows end
  abbrev pub At : (p s : ℕ) → Type 0
  At p s = (p ≡ n) ⊎ ((p < n) × (stamp p ≡ s) × (ct p ≡ 0))

  -- with a stamp from 1 up it is a cycle that starts
  pub start : (p s : ℕ) → 0 < s → (p < n) × (stamp p ≡ s) × (ct p ≡ 0) → Start p
  start p s z w = record { fits = w.0; used = λ e. absurd (omega arith); first = w.2 }

  -- after a cycle comes the next one, or nothing
  pub next : (p : ℕ) → Start p → At (p + suc (last p)) (suc (stamp p))
  next p b = rw add-suc (go (ℕ_discrete (suc (p + last p)) n))
    where
      u : Run p (last p)
      u = run p b (last p) (omega arith)

      go : Dec (suc (p + last p) ≡ n) → At (suc (p + last p)) (suc (stamp p))
      go (yes e) = inl e
      go (no e) =
          let f : suc (p + last p) < n = omega (arith, u.fits) in
          let s : stamp (p + last p) ≢ 0 = λ z. b.used (sym u.same_stamp ∙ z) in
          let t : stamp (suc (p + last p)) ≡ suc (stamp (p + last p)) =
          stamp_over _ _ _ _ s (u.place ∙ sym u.same_last) (steps.stamps (p + last p) f) in
          inr (f, t ∙ ap suc u.same_stamp, ct_new _ _ _ _ (λ e. absurd (omega arith)) (steps.cts (p + last p) f))

  -- after an empty row comes an empty row, the first cycle, or nothing
  pub after_empty : (p : ℕ) → p < n → stamp p ≡ 0 → ((suc p < n) × (stamp (suc p) ≡ 0)) ⊎ At (suc p) 1
  after_empty p h e = go (ℕ_discrete (suc p) n) (ℕ_discrete (stamp (suc p)) 0)
    where
      go : Dec (suc p ≡ n) → Dec (stamp (suc p) ≡ 0) → ((suc p < n) × (stamp (suc p) ≡ 0)) ⊎ At (suc p) 1
      go (yes q) d = inr (inl q)
      go (no q) (yes z) = inl (omega arith, z)
      go (no q) (no z) =
          let f : suc p < n = omega arith in
          let t : stamp (suc p) ≤ 1 = stamp_after_empty (ct p) (last p) (stamp (suc p)) (rw e at (steps.stamps p f)) in
          inr (inr (f, omega arith, ct_new _ _ _ _ (λ q. z (q ∙ e)) (steps.cts p f)))

  -- what goes back over one cycle goes back over all
  module _ (P : (p s : ℕ) → Type 0) (end : (s : ℕ) → P n s)
      (over : (p : ℕ) → Start p → P (p + suc (last p)) (suc (stamp p)) → P p (stamp p)) where
    cycles-within : (f p s : ℕ) → 0 < s → n ≤ p + f → At p s → P p s
    cycles-within zero p s z l (inl e) = rw e (end s)
    cycles-within zero p s z l (inr w) = absurd (omega (arith, w.0))
    cycles-within (suc f) p s z l (inl e) = rw e (end s)
    cycles-within (suc f) p s z l (inr w) =
        let b : Start p = start p s z w in
        rw w.1 at (over p b (cycles-within f (p + suc (last p)) (suc (stamp p)) (omega arith) (omega arith) (next p b)))

    pub over_cycles : (p s : ℕ) → 0 < s → At p s → P p s
    over_cycles p s z a = cycles-within n p s z (omega arith) a

  -- and what goes back from the first cycle over one empty row goes back over all of them
  module _ (Q : ℕ → Type 0) (first : (p : ℕ) → p < n → stamp p ≡ 0 → At (suc p) 1 → Q p)
      (more : (p : ℕ) → suc p < n → stamp p ≡ 0 → Q (suc p) → Q p) where
    empty_within : (f p : ℕ) → n ≤ p + f → p < n → stamp p ≡ 0 → Q p
    empty_within zero p l h e = absurd (omega arith)
    empty_within (suc f) p l h e =
        ⊎_elim (λ w. more p w.0 e (empty_within f (suc p) (omega arith) w.0 w.1)) (first p h e) (after_empty p h e)

    pub over_empty : (p : ℕ) → p < n → stamp p ≡ 0 → Q p
    over_empty p h e = empty_within n p (omega arith) h e
