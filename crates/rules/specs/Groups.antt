-- The tests by the groups of document 01: a group whose condition fails asks nothing.
use Rattle.std.specs.Prelude.{Bool, List, [], ◌∷◌, ◌++◌, map, eqb}
use Rattle.model.specs.Columns.{Cells}
use Rattle.model.specs.Constraints.{k7, k8, k10, k11, k12, k13, k14, k15, k16, k17, k18, k19, k20, k21, k22, k23, k24, in_use}
use Rattle.model.specs.Tests.{implies}

-- tests that are made only where a condition holds
unfoldable pub only : Bool → List Bool → List Bool
only g ts = map (implies g) ts

-- 18 to 22: those on the last row of a cycle
abbrev pub last_row_tests : (a b x : Cells) → List Bool
last_row_tests a b x = k18 x ∷ k19 x ∷ k20 x ∷ k21 b x ∷ k22 a b x ∷ []

-- 11 to 23, where OOOB=0
abbrev pub within_tests : (a b x : Cells) → List Bool
within_tests a b x =
    only (eqb x.ooob 0)
    (k11 b x ∷ k12 b x ∷ k13 b x ∷ k14 b x ∷ k15 x ∷ k16 x ∷ k17 x ∷ (last_row_tests a b x ++ (k23 x ∷ [])))

-- 24 and 25, where OOOB=1; the answer to 25 is known
abbrev pub beyond_tests : (x : Cells) → (twenty_five : Bool) → List Bool
beyond_tests x twenty_five = only (eqb x.ooob 1) (k24 x ∷ twenty_five ∷ [])

-- 7 to 25, where STAMP is not 0; the answers to 9 and to 25 are known
abbrev pub used_tests : (a b x : Cells) → (nine twenty_five : Bool) → List Bool
used_tests a b x nine twenty_five =
    only (in_use x) (k7 x ∷ k8 b x ∷ nine ∷ k10 b x ∷ (within_tests a b x ++ beyond_tests x twenty_five))
