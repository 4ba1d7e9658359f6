-- Laws of the first constraint that a row breaks.
use Rattle.std.proofs.Common.{◌≡◌, ℕ, suc, ◌+◌, Bool, true, false, not, Option, Some, option_map, List, [], ◌∷◌, refl, ap, ◌∙◌, add-one}
use Rattle.std.specs.List.{position, position_from}
use Rattle.std.proofs.lemmas.Iterator.Adapters.{position_from-zero}
use Rattle.rules.specs.First.{named}
use Rattle.model.specs.Columns.{Cells}
use Rattle.model.specs.Constraints.{k1, k2, k3, k4, k5, k6, k7, k8, in_use, used, constraints_by, first_failed, first_or}
use Rattle.model.specs.Tests.{pick, implies}

-- what comes after a test matters only where it passes
after : (n : ℕ) {p q : ℕ} (t : Bool) → (t ≡ true → p ≡ q) → pick t p n ≡ pick t q n
after n true h = h refl
after n false h = refl

-- and one test may stand for another
other_test : (n : ℕ) {t k : Bool} (p : ℕ) → t ≡ k → pick t p n ≡ pick k p n
other_test n p e = ap (λ (s : Bool). pick s p n) e

-- The answer to 9 matters only on a row that meets 3 and 4 and is in use.
pub nine_matters_not : (a b x : Cells) (first last nine other twenty_five : Bool)
    → (k3 first b x ≡ true → k4 b x ≡ true → in_use x ≡ true → nine ≡ other)
    → first_failed 1 (constraints_by a b x first last nine twenty_five) ≡ first_failed 1 (constraints_by a b x first last other twenty_five)
unfolding first_or
nine_matters_not a b x first last nine other twenty_five h =
    after 1 (k1 x) (λ _.
    after 2 (k2 first x) (λ _.
    after 3 (k3 first b x) (λ e3.
    after 4 (k4 b x) (λ e4.
    after 5 (k5 b x) (λ _.
    after 6 (k6 x) (λ _.
    after 7 (used x (k7 x)) (λ _.
    after 8 (used x (k8 b x)) (λ _.
    other_test 9 _ (same (in_use x) (h e3 e4))))))))))
  where
    same : (u : Bool) → (u ≡ true → nine ≡ other) → implies u nine ≡ implies u other
    same true e = e refl
    same false e = refl

-- ---- the first test that does not pass, by its place and by its number

-- from place i on
number_from : (i : ℕ) (ts : List Bool) → option_map (λ j. j + 1) (position_from not i ts) ≡ named (first_or (suc i) ts 0)
unfolding first_or
number_from i [] = refl
number_from i (true ∷ ts) = rw add-one (number_from (suc i) ts)
number_from i (false ∷ ts) = ap Some (add-one i)

-- the number of the first that does not pass is one more than its place
pub named_position : (r : Option ℕ) (ts us : List Bool) → r ≡ position not ts → ts ≡ us → option_map (λ j. j + 1) r ≡ named (first_failed 1 us)
named_position r ts us e f =
    ap (option_map (λ j. j + 1)) (e ∙ ap (position not) f ∙ position_from-zero not us) ∙ number_from 0 us
