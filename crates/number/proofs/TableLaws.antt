-- A rule of a table, proved at all of its entries by one test that the checker computes, one entry after the other.
use Prim.Native.Nat.{ℕ, zero, suc, ◌<◌}
use mathlib.Core.Bool.{Bool, true, false, ◌&&◌}
use mathlib.Core.List.{List, [], ◌∷◌}
use native.Mathlib.Nat.{le_of_suc-le-suc, not-suc-le-zero}
use lib.Dec.{T}
use lib.ListN.{length, get_or}
use Rattle.number.specs.Tables.{every}

-- of two tests that pass, the first does
pub and_left : (a b : Bool) → T (a && b) → T a
and_left true b t = tt
and_left false b t = t

-- and the second does
pub and_right : (a b : Bool) → T (a && b) → T b
and_right true b t = t
and_right false b t = absurd t

-- a test that passes at each entry passes at entry k
pub every_at : {A : Type 0} (f : A → Bool) (xs : List A) → T (every f xs) → (k : ℕ) (d : A) → k < length xs → T (f (get_or xs k d))
every_at f [] t k d h = absurd (not-suc-le-zero h)
every_at f (x ∷ xs) t zero d h = and_left (f x) (every f xs) t
every_at f (x ∷ xs) t (suc k) d h = every_at f xs (and_right (f x) (every f xs) t) k d (le_of_suc-le-suc h)
