-- What the checker knows at a row gives the row's first broken constraint, and with it what it knows at the next row.
use Prim.Native.Nat.{ℕ, zero, suc, ◌+◌, ◌-◌, ◌<◌}
use mathlib.Core.Bool.{Bool, true}
use mathlib.Core.List.{List}
use mathlib.Core.Path.{◌≡◌, refl, sym, ◌∙◌, ap}
use native.Mathlib.Numerals.{add-one}
use native.Mathlib.Omega.{arith}
use lib.Dec.{eqb}
use Rattle.std.specs.Prelude.{Some, None}
use Rattle.model.specs.Columns.{Cells, row_at, rows_of, table}
use Rattle.model.specs.Constraints.{in_use, k3, k4, k9, k25, constraints_by, first_failed, first_broken}
use Rattle.model.specs.Cycles.{counts}
use Rattle.model.specs.State.{context_of}
use Rattle.model.specs.Verdict.{row_before, before, broken_at, judged, meet, verdict}
use Rattle.model.proofs.JudgeLaws.{judged_stops}
use Rattle.model.proofs.VerdictLaws.{judged_meet, sized_verdict}
use Rattle.state.specs.Look.{look_back}
use Rattle.state.proofs.LookLaws.{look-before}
use Rattle.rules.specs.First.{named}
use Rattle.rules.proofs.FirstLaws.{nine_matters_not}
use Rattle.number.proofs.TestLaws.{clash}
use Rattle.count.specs.Counts.{plain_counts}
use Rattle.count.specs.declared.Counts.{Counts}
use Rattle.checker.specs.Answer.{told}
use Rattle.checker.specs.Rows.{RowsOf, asked, first_at, judgement}
use Rattle.checker.specs.declared.Verdict.TheVariants.{Accepted, Broken}
use Rattle.checker.proofs.StartLaws.{between, asked_where_starts, used_stamp}

-- ---- a constraint by its number

-- what is named none has the number 0
named-none : (m : ℕ) → None ≡ named m → m ≡ 0
named-none zero e = refl
named-none (suc m) e = clash cc

-- what is named has its number, which is not 0
named-some : (m k : ℕ) → Some k ≡ named m → (k ≡ m) × (0 < k)
named-some zero k e = clash cc
named-some (suc m) k e =
    let same : k ≡ suc m = cc in
    (same, omega arith)

-- ---- row by row

module _ (r : ℕ → Cells) (n : ℕ) where
  module _ (i : ℕ) (meets : judged (broken_at r n) i ≡ meet) where
    -- on a row that meets 3 and 4, the state that is looked up is the model's
    nine_is : k3 (eqb i 0) (row_before r i) (r i) ≡ true → k4 (row_before r i) (r i) ≡ true → in_use (r i) ≡ true
        → asked r (row_before r i).stamp i ≡ k9 (before r i (context_of (r i))) (r i)
    unfolding asked
    nine_is h3 h4 u =
        asked_where_starts (r i) (look_back r (context_of (r i)) (row_before r i).stamp i).state (before r i (context_of (r i))) u
        (λ z. look-before r n (context_of (r i)) i ((judged_meet r n i).0 meets) (between r i (r i) h3 h4 (used_stamp (r i) u) z))

    -- the first constraint that fails, with 9 asked so, is the row's first broken one
    pub broken_is : first_at r n (row_before r i).stamp i ≡ broken_at r n i
    unfolding first_at broken_at first_broken
    broken_is =
        rw (add-one i)
        (nine_matters_not (row_before (row_before r) i) (row_before r i) (r i) (eqb i 0) (eqb (suc i) n) (asked r (row_before r i).stamp i)
        (k9 (before r i (context_of (r i))) (r i)) (k25 (r i)) nine_is)

  -- before the first row all rows meet the constraints
  pub meets_first : judged (broken_at r n) 0 ≡ meet
  unfolding judged
  meets_first = refl

  -- the answer where all rows meet all of them
  pub told_accepted : (c : Counts) (i : ℕ) → i ≡ n → judged (broken_at r n) i ≡ meet → plain_counts c ≡ counts (table i r) → Accepted c ≡ judgement r n
  told_accepted c i l h e =
      let m : judged (broken_at r n) n ≡ meet = rw l at h in
      let k : plain_counts c ≡ counts (table n r) = rw l at e in
      rw (m, ← k)

  -- after a row that meets all constraints
  pub meets_next : (i : ℕ) → judged (broken_at r n) i ≡ meet → broken_at r n i ≡ 0 → judged (broken_at r n) (i + 1) ≡ meet
  unfolding judged
  meets_next i m z = rw (add-one i) (rw (m, z))

  -- the answer where a row breaks a constraint
  pub told_broken : (i k : ℕ) → i < n → judged (broken_at r n) i ≡ meet → k ≡ broken_at r n i → 0 < k → Broken i k ≡ judgement r n
  told_broken i k l m e p = rw ((judged_stops (broken_at r n) n i k).1 (l, record { from = p; number = sym e; earlier = m }))

  module _ (i : ℕ) (meets : judged (broken_at r n) i ≡ meet) where
    -- where no constraint is named, the next row comes after rows that meet them all
    pub none_named : None ≡ named (first_at r n (row_before r i).stamp i) → judged (broken_at r n) (i + 1) ≡ meet
    none_named e = meets_next i meets (sym (broken_is i meets) ∙ named-none _ e)

    -- where one is, it is the answer
    pub one_named : (k : ℕ) → i < n → Some k ≡ named (first_at r n (row_before r i).stamp i) → Broken i k ≡ judgement r n
    one_named k l e =
        let (here, some) = named-some _ k e in
        told_broken i k l meets (here ∙ broken_is i meets) some

-- the row two before is the row before the row before
before-twice : (r : ℕ → Cells) (i : ℕ) → row_before r (i - 1) ≡ row_before (row_before r) i
before-twice r zero = refl
before-twice r (suc i) =
    let one : suc i - 1 ≡ i = omega arith in
    rw one

-- the first constraint that row i breaks, by the three rows that are looked at and the answers to 9 and 25
pub first_of_rows : (r : ℕ → Cells) (n cycles i : ℕ) (nine twenty_five : Bool) (a b x : Cells) (k : ℕ) → nine ≡ asked r cycles i
    → a ≡ row_before (row_before r) i → b ≡ row_before r i → x ≡ r i → twenty_five ≡ k25 x
    → k ≡ first_failed 1 (constraints_by a b x (eqb i 0) (eqb (i + 1) n) nine twenty_five) → k ≡ first_at r n cycles i
unfolding first_at
first_of_rows r n cycles i nine twenty_five a b x k d e f g h m = rw (← d, ← e, ← f, ← g, ← h) m

-- so it is where the row two before is read as the row before row i - 1, and the cycles before row i are STAMP of the row before
pub first_of_window : (r : ℕ → Cells) (n i before : ℕ) (nine : Bool) (a b x : Cells) → before ≡ i - 1 → a ≡ row_before r before
    → b ≡ row_before r i → x ≡ r i → nine ≡ asked r b.stamp i
    → first_failed 1 (constraints_by a b x (eqb i 0) (eqb (i + 1) n) nine (k25 x)) ≡ first_at r n (row_before r i).stamp i
first_of_window r n i before nine a b x p e f g d =
    first_of_rows r n (row_before r i).stamp i nine (k25 x) a b x _ (rw f at d) (rw p at e ∙ before-twice r i) f g refl refl

-- ---- whole rows

-- the judgement on the whole rows of a trace is the verdict on it
pub judged_rows : (l bytes : List ℕ) (n : ℕ) → RowsOf l bytes n → judgement (row_at bytes) n ≡ told (verdict l)
unfolding rows_of
judged_rows l bytes n rows = rw (rows.all, rows.counted) (ap told (sym (sized_verdict l rows.sized)))
