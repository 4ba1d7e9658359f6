-- The words in which the constraints are written: tests on whole numbers.
use Rattle.std.specs.Prelude.{ℕ, ◌+◌, ◌*◌, Bool, not, ◌||◌, List, eqb}
use Rattle.number.specs.Tables.{every}
pub use Rattle.number.specs.Tests.{pick, bit}

-- the second test has to pass where the first does
abbrev pub implies : Bool → Bool → Bool
implies a b = not a || b

-- all of the numbers are 0
abbrev pub zeros : List ℕ → Bool
zeros l = every (λ v. eqb v 0) l

-- v is a - b. A difference below 0 equals no cell: the test is made by a sum.
unfoldable pub is_difference : ℕ → ℕ → ℕ → Bool
is_difference v a b = eqb (v + b) a

-- "Sums up X into Y" means Y=X where CT=0, else Y = 256 times Y of the row before, plus X.
unfoldable pub sums_up : (ct before x y : ℕ) → Bool
sums_up ct before x y = eqb y (pick (eqb ct 0) x (256 * before + x))
