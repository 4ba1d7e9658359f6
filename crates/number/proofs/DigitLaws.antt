-- Laws of digits at any base from 2 on: reading them gives the number back, each is below the base, no number but 0 begins with a zero, and a number
-- below b ^ w has at most w. Each law of `digits` is one use of `digits_induction`.
use Prim.Native.Nat.{ℕ, zero, suc, ◌+◌, ◌*◌, ◌/◌, ◌%◌, ◌^◌, ◌≤◌, ◌<◌}
use mathlib.Core.Bool.{Bool, true, false}
use mathlib.Core.List.{List, [], ◌∷◌, ◌++◌}
use mathlib.Core.Path.{◌≡◌, refl, sym, ◌∙◌, ap}
use native.Mathlib.Nat.{div-add-mod', mod-lt, mod-eq_of_lt, div-eq_of_lt, mul-add-div_right, mul-add-mod_self_right, div-lt_self, le-div_iff_mul-le, div-lt_iff_lt-mul, one-mul, zero-mul, zero-add, add-zero, pow-suc, pow-zero, mul-le-mul_right}
use native.Mathlib.Omega.{arith}
use borrow.Author.Tests.{lt-ltb, le-ltb, ltb-true, ltb-false}
use lib.Dec.{ltb}
use lib.ListN.{length, get_or, length-append, get_or-append}
use Rattle.number.specs.Digits.{digits_within, digits, digits_in, spell_after, spell, AllBelow}

-- a zero inside, the greatest digit twice, 0 as one zero, and a zero in front where two digits are asked for
pub digits-examples : (digits 10 705 ≡ 7 ∷ 0 ∷ 5 ∷ []) × (digits 16 255 ≡ 15 ∷ 15 ∷ []) × (digits 10 0 ≡ 0 ∷ []) × (digits_in 16 2 5 ≡ 0 ∷ 5 ∷ [])
unfolding digits digits_within digits_in
digits-examples = (refl, refl, refl, refl)

-- digits are read one run after the other
pub spell-append : (b v : ℕ) (ds es : List ℕ) → spell_after b v (ds ++ es) ≡ spell_after b (spell_after b v ds) es
unfolding spell_after
spell-append b v [] es = refl
spell-append b v (d ∷ ds) es = spell-append b (v * b + d) ds es

-- what is below the base on both sides is so in all
pub below-append : (b : ℕ) (ds es : List ℕ) → AllBelow b ds → AllBelow b es → AllBelow b (ds ++ es)
below-append b [] es p q = q
below-append b (d ∷ ds) es p q = (p.0, below-append b ds es p.1 q)

-- what digits spell is below the power of the base
pub spell-lt : (b v : ℕ) (ds : List ℕ) (k : ℕ) → v < b ^ k → AllBelow b ds → spell_after b v ds < b ^ (k + length ds)
unfolding spell_after
spell-lt b v [] k h p = rw (add-zero k) h
spell-lt b v (d ∷ ds) k h p =
    let e : k + suc (length ds) ≡ suc k + length ds = omega arith in
    let step : v * b + d < b ^ suc k = rw pow-suc (omega (arith, mul-le-mul_right b h, p.0)) in
    rw e (spell-lt b (v * b + d) ds (suc k) step p.1)

module _ (b : ℕ) (two : 1 < b) where
  some : 0 < b
  some = omega arith

  -- ---- a number with one digit more

  -- its parts are the number before and the digit
  last_div : (v d : ℕ) → d < b → (v * b + d) / b ≡ v
  last_div v d h = mul-add-div_right some v d ∙ ap (λ (x : ℕ). v + x) (div-eq_of_lt h) ∙ add-zero v

  last_mod : (v d : ℕ) → d < b → (v * b + d) % b ≡ d
  last_mod v d h = mul-add-mod_self_right v b d ∙ mod-eq_of_lt h

  -- ---- the definition, by cases and by induction

  within_small : (k n : ℕ) → n < b → digits_within b (suc k) n ≡ n ∷ []
  unfolding digits_within
  within_small k n h = rw (digits_within, lt-ltb n b h)

  within_large : (k n : ℕ) → b ≤ n → digits_within b (suc k) n ≡ digits_within b k (n / b) ++ (n % b ∷ [])
  unfolding digits_within
  within_large k n h = rw (digits_within, le-ltb n b h)

  -- what is left is shorter
  less : (n k : ℕ) → b ≤ n → n < suc k → n / b < k
  less n k h l = omega (arith, div-lt_self {n = n} {k = b} (omega (arith, some)) two)

  -- room for more digits than there are changes nothing
  enough : (k m n : ℕ) → n < k → n < m → digits_within b k n ≡ digits_within b m n
  enough zero m n h l = absurd (omega arith)
  enough (suc k) zero n h l = absurd (omega arith)
  enough (suc k) (suc m) n h l = by (ltb n b) refl (enough k m (n / b))
    where
      by : (t : Bool) → ltb n b ≡ t → (n / b < k → n / b < m → digits_within b k (n / b) ≡ digits_within b m (n / b))
          → digits_within b (suc k) n ≡ digits_within b (suc m) n
      by true e part = within_small k n (ltb-true n b e) ∙ sym (within_small m n (ltb-true n b e))
      by false e part =
          let ge : b ≤ n = ltb-false n b e in
          within_large k n ge
          ∙ ap (λ (ds : List ℕ). ds ++ (n % b ∷ [])) (part (less n k ge h) (less n m ge l))
          ∙ sym (within_large m n ge)

  -- a number below the base is its own digit
  pub digits_small : (n : ℕ) → n < b → digits b n ≡ n ∷ []
  unfolding digits
  digits_small n h = within_small n n h

  -- any other is the digits of n / b and then n % b
  pub digits_large : (n : ℕ) → b ≤ n → digits b n ≡ digits b (n / b) ++ (n % b ∷ [])
  unfolding digits
  digits_large n h =
      within_large n n h ∙ ap (λ (l : List ℕ). l ++ (n % b ∷ [])) (enough n (suc (n / b)) (n / b) (less n n h (omega arith)) (omega arith))

  -- one digit more behind a number that is not 0
  pub digits_more : (v d : ℕ) → 1 ≤ v → d < b → digits b (v * b + d) ≡ digits b v ++ (d ∷ [])
  digits_more v d h l =
      let large : b ≤ v * b + d = omega (arith, mul-le-mul_right b h, one-mul b) in
      digits_large (v * b + d) large ∙ rw (last_div v d l, last_mod v d l)

  -- what holds of each number below the base and its digit, and of any other and its digits if it holds of a b-th of it, holds of every number
  module _ (P : ℕ → List ℕ → Type 0) (small : (n : ℕ) → n < b → P n (n ∷ []))
      (large : (n : ℕ) (l : List ℕ) → b ≤ n → P (n / b) l → P n (l ++ (n % b ∷ []))) where
    within : (k n : ℕ) → n < k → P n (digits b n)
    within zero n h = absurd (omega arith)
    within (suc k) n h = by (ltb n b) refl (within k (n / b))
      where
        by : (t : Bool) → ltb n b ≡ t → (n / b < k → P (n / b) (digits b (n / b))) → P n (digits b n)
        by true e part = rw (digits_small n (ltb-true n b e)) (small n (ltb-true n b e))
        by false e part =
            let ge : b ≤ n = ltb-false n b e in
            rw (digits_large n ge) (large n (digits b (n / b)) ge (part (less n k ge h)))

    pub digits_induction : (n : ℕ) → P n (digits b n)
    digits_induction n = within (suc n) n (omega arith)

  -- ---- what the digits are

  -- reading the digits gives the number back
  pub spell-digits : (n : ℕ) → spell b (digits b n) ≡ n
  unfolding spell_after
  spell-digits = digits_induction (λ n l. spell b l ≡ n) (λ n h. rw (zero-mul, zero-add)) (λ n l h e. rw (spell-append, e) (div-add-mod' n b))

  -- so two numbers with equal digits are equal
  pub digits_injective : (m n : ℕ) → digits b m ≡ digits b n → m ≡ n
  digits_injective m n e = sym (spell-digits m) ∙ ap (spell b) e ∙ spell-digits n

  -- each is below the base
  pub digits-below : (n : ℕ) → AllBelow b (digits b n)
  digits-below = digits_induction (λ n l. AllBelow b l) (λ n h. (h, tt)) (λ n l h p. below-append b l (n % b ∷ []) p (mod-lt n some, tt))

  -- there is one at least
  pub length_digits_pos : (n : ℕ) → 1 ≤ length (digits b n)
  length_digits_pos = digits_induction (λ n l. 1 ≤ length l) (λ n h. omega arith) (λ n l h p. rw length-append (omega arith))

  -- a number below b ^ (k + 1) has at most k + 1
  pub length_digits : (n k : ℕ) → n < b ^ suc k → length (digits b n) ≤ suc k
  length_digits = digits_induction (λ n l. (k : ℕ) → n < b ^ suc k → length l ≤ suc k) (λ n h k p. omega arith) large
    where
      large : (n : ℕ) (l : List ℕ) → b ≤ n → ((k : ℕ) → n / b < b ^ suc k → length l ≤ suc k)
          → (k : ℕ) → n < b ^ suc k → length (l ++ (n % b ∷ [])) ≤ suc k
      large n l h ih zero p = absurd (omega (arith, rw (pow-suc b 0, pow-zero, one-mul) at p))
      large n l h ih (suc k) p = rw length-append (omega (arith, ih k ((div-lt_iff_lt-mul some).1 (rw (pow-suc b (suc k)) at p))))

  -- only 0 begins with the digit 0
  pub digits-first : (n : ℕ) → get_or (digits b n) 0 0 ≡ 0 → n ≡ 0
  digits-first n = (digits_induction (λ n l. (1 ≤ length l) × (get_or l 0 0 ≡ 0 → n ≡ 0)) (λ n h. (omega arith, λ e. e)) large n).1
    where
      large : (n : ℕ) (l : List ℕ) → b ≤ n → (1 ≤ length l) × (get_or l 0 0 ≡ 0 → n / b ≡ 0)
          → (1 ≤ length (l ++ (n % b ∷ []))) × (get_or (l ++ (n % b ∷ [])) 0 0 ≡ 0 → n ≡ 0)
      large n l h p = (
        rw length-append (omega arith),
        λ e.
            absurd
            (omega
            (arith, p.1 (rw (get_or-append l (n % b ∷ []) 0 0 p.0) at e), (le-div_iff_mul-le {k = b} {x = 1} {y = n} some).1 (omega (arith, one-mul b)))),
      )

  -- ---- digits of a given number

  pub length_digits_in : (w n : ℕ) → length (digits_in b w n) ≡ w
  unfolding digits_in
  length_digits_in zero n = refl
  length_digits_in (suc w) n = rw (length-append, length_digits_in w (n / b)) (omega arith)

  -- one digit more
  pub digits_in_more : (w v d : ℕ) → d < b → digits_in b (suc w) (v * b + d) ≡ digits_in b w v ++ (d ∷ [])
  unfolding digits_in
  digits_in_more w v d h = rw (last_div v d h, last_mod v d h)

  -- reading them gives the number back, where it has no more
  pub spell_digits_in : (w n : ℕ) → n < b ^ w → spell b (digits_in b w n) ≡ n
  unfolding digits_in spell_after
  spell_digits_in zero n h = omega (arith, rw (pow-zero b) at h)
  spell_digits_in (suc w) n h =
      let ih : spell b (digits_in b w (n / b)) ≡ n / b = spell_digits_in w (n / b) ((div-lt_iff_lt-mul some).1 (rw (pow-suc b w) at h)) in
      rw (spell-append, ih) (div-add-mod' n b)

  pub digits_in_below : (w n : ℕ) → AllBelow b (digits_in b w n)
  unfolding digits_in
  digits_in_below zero n = tt
  digits_in_below (suc w) n = below-append b (digits_in b w (n / b)) (n % b ∷ []) (digits_in_below w (n / b)) (mod-lt n some, tt)
