-- The model's tests by groups: a group is made where its condition holds and passed over where not, and the first failing test is found from the
-- last test to the first. The groups are the tests that the code makes (`grouped`), and so is the first that fails (`first_by_groups`).
use Rattle.std.proofs.Common.{◌≡◌, ℕ, suc, ◌+◌, Bool, true, false, List, [], ◌∷◌, ◌++◌, refl, ap, ◌∙◌, arith, add-zero}
use mathlib.Core.Bool.{true≢false, false≢true}
use lib.Dec.{eqb}
use lib.ListN.{length}
use Rattle.model.specs.Columns.{Cells}
use Rattle.model.specs.Constraints.{k1, k2, k3, k4, k5, k6, k7, k8, k10, k18, k19, k20, k21, k22, k26, in_last, in_use, constraints_by, first_or, first_failed}
use Rattle.model.specs.Tests.{pick}
use Rattle.rules.specs.Groups.{only, last_row_tests, within_tests, beyond_tests, used_tests}

-- one test more in front of those whose first failing one is known
pub link : (n : ℕ) {r x y : ℕ} {t k : Bool} → r ≡ pick t x n → t ≡ k → x ≡ y → r ≡ pick k y n
link n {r} {x} {y} {t} {k} e f g = e ∙ ap (λ (s : Bool). pick s x n) f ∙ ap (λ (m : ℕ). pick k m n) g

-- and so many tests more
pub link_all : (k : ℕ) (ts : List Bool) {r x y : ℕ} → r ≡ first_or k ts x → x ≡ y → r ≡ first_or k ts y
link_all k ts e f = e ∙ ap (first_or k ts) f

-- tests whose condition does not hold are passed over
pub shut : (g : Bool) (k : ℕ) (ts : List Bool) (rest : ℕ) → g ≡ false → rest ≡ first_or k (only g ts) rest
unfolding first_or only
shut true k ts rest e = absurd (true≢false e)
shut false k [] rest e = refl
shut false k (t ∷ ts) rest e = shut false (suc k) ts rest e

-- and where it holds they are made
pub opened : (g : Bool) (k : ℕ) (ts : List Bool) (rest : ℕ) → g ≡ true → first_or k ts rest ≡ first_or k (only g ts) rest
unfolding first_or only
opened true k [] rest e = refl
opened true k (t ∷ ts) rest e = ap (λ (n : ℕ). pick t n k) (opened true (suc k) ts rest e)
opened false k ts rest e = absurd (false≢true e)

-- 18 to 22 hold on any row that is not the last of a cycle
pub last_row_shut : (a b x : Cells) (rest : ℕ) → eqb x.ct in_last ≡ false → rest ≡ first_or 18 (last_row_tests a b x) rest
unfolding first_or k18 k19 k20 k21 k22
last_row_shut a b x rest e = rw e

-- 7 to 25 on a row in use: 7 to 10, and after them the two groups that OOOB tells apart
pub used-opened : (a b x : Cells) (nine twenty_five : Bool) (rest : ℕ) → in_use x ≡ true
    → first_or 7 (k7 x ∷ k8 b x ∷ nine ∷ k10 b x ∷ []) (first_or 11 (within_tests a b x) (first_or 24 (beyond_tests x twenty_five) rest))
    ≡ first_or 7 (used_tests a b x nine twenty_five) rest
unfolding first_or only
used-opened a b x nine twenty_five rest e =
    opened (in_use x) 7 (k7 x ∷ k8 b x ∷ nine ∷ k10 b x ∷ (within_tests a b x ++ beyond_tests x twenty_five)) rest e

-- 1 to 6, the groups and 26 are the 26 tests of a row in their order
pub grouped : (a b x : Cells) (first last nine twenty_five : Bool) → constraints_by a b x first last nine twenty_five
    ≡ k1 x ∷ k2 first x ∷ k3 first b x ∷ k4 b x ∷ k5 b x ∷ k6 x ∷ (used_tests a b x nine twenty_five ++ (k26 last x ∷ []))
unfolding only
grouped a b x first last nine twenty_five = refl

-- tests with others behind them: what the others answer is known first
behind : (k : ℕ) (ts us : List Bool) (rest : ℕ) → first_or k (ts ++ us) rest ≡ first_or k ts (first_or (k + length ts) us rest)
unfolding first_or
behind k [] us rest = rw add-zero
behind k (t ∷ ts) us rest =
    let there : k + suc (length ts) ≡ suc k + length ts = omega arith in
    rw there (ap (λ (n : ℕ). pick t n k) (behind (suc k) ts us rest))

-- so the first constraint that a row breaks is found by the groups: 26 first, before it 7 to 25 and before these 1 to 6
pub first_by_groups : (a b x : Cells) (first last nine twenty_five : Bool)
    → first_failed 1 (constraints_by a b x first last nine twenty_five)
    ≡ first_or 1 (k1 x ∷ k2 first x ∷ k3 first b x ∷ k4 b x ∷ k5 b x ∷ k6 x ∷ [])
    (first_or 7 (used_tests a b x nine twenty_five) (first_or 26 (k26 last x ∷ []) 0))
unfolding first_or only
first_by_groups a b x first last nine twenty_five =
    ap (first_or 1 (k1 x ∷ k2 first x ∷ k3 first b x ∷ k4 b x ∷ k5 b x ∷ k6 x ∷ [])) (behind 7 (used_tests a b x nine twenty_five) (k26 last x ∷ []) 0)
