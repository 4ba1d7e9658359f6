-- The digits of a number at any base from 2 on, by their values, the most significant first.
use Rattle.std.specs.Prelude.{ℕ, zero, suc, ◌+◌, ◌*◌, ◌/◌, ◌%◌, ◌<◌, true, false, List, [], ◌∷◌, ◌++◌, ltb}

-- the digits of n, at most k of them: a number below the base is its own digit, any other is the digits of n / b and then n % b
unfoldable pub digits_within : (b k n : ℕ) → List ℕ
digits_within b zero n = []
digits_within b (suc k) n = elim (ltb n b) [ true ↦ n ∷ [] | false ↦ digits_within b k (n / b) ++ (n % b ∷ []) ]

-- n without a zero in front, 0 as one zero: no number n has more than n + 1 digits
unfoldable pub digits : (b n : ℕ) → List ℕ
digits b n = digits_within b (suc n) n

-- n in exactly w digits: the last w of them
unfoldable pub digits_in : (b w n : ℕ) → List ℕ
digits_in b zero n = []
digits_in b (suc w) n = digits_in b w (n / b) ++ (n % b ∷ [])

-- the number that digits spell after those that spell v
unfoldable pub spell_after : (b v : ℕ) → List ℕ → ℕ
spell_after b v [] = v
spell_after b v (d ∷ ds) = spell_after b (v * b + d) ds

-- the number that digits spell
abbrev pub spell : ℕ → List ℕ → ℕ
spell b ds = spell_after b 0 ds

-- each digit is below the base
abbrev pub AllBelow : ℕ → List ℕ → Type 0
AllBelow b [] = Unit
AllBelow b (d ∷ ds) = (d < b) × AllBelow b ds
