-- The verdict in words: what the answers of `broken_at`, `judged` and `verdict` say about constraints and rows.
use Prim.Native.Nat.{ℕ, zero, suc, ◌/◌, ◌%◌, ◌≤◌, ◌<◌}
use mathlib.Core.Bool.{Bool, true, false, not, ◌||◌}
use mathlib.Core.List.{List}
use mathlib.Core.Logic.{◌↔◌, ◌≢◌, ◌⊎◌, inl, inr, ⊎_elim}
use mathlib.Core.Path.{◌≡◌, refl, ap, ap₂, subst}
use native.Mathlib.Nat.{le_of_suc-le-suc}
use native.Mathlib.Omega.{arith}
use borrow.Author.Tests.{ltb-true, ltb-false, eqb-true, eqb-false, not-true, not-false, lt-ltb, le-ltb, eq-eqb, ne_eqb}
use lib.Dec.{eqb, ltb}
use lib.ListN.{length}
use Rattle.number.proofs.TestLaws.{either, either_left, either_right}
use Rattle.model.specs.Columns.{Cells, row_bytes, row_at, rows_of}
use Rattle.model.specs.Constraints.{constraints, constraint, first_broken}
use Rattle.model.specs.Cycles.{Counts, counts}
use Rattle.model.specs.Promises.{Holds, AllHold, FirstBroken, WellSized, Meets}
use Rattle.model.specs.State.{context_of}
use Rattle.model.specs.Tests.{pick}
use Rattle.model.specs.Verdict.{row_before, passed, before, view, broken_at, Judgement, meet, break, judged}
use Rattle.model.specs.Verdict.{Verdict, accepted, broken, refused, max_rows, bad_length, too_many_rows, verdict_by, verdict}
use Rattle.model.proofs.JudgeLaws.{FirstFails, zero_pass, pass_zero, some_fails, fails_some, fails_in, judged-zero, Stops, judged_stops}
use Rattle.model.proofs.RowFacts.{each, all_hold}

-- ---- one row

module _ (r : ℕ → Cells) (n i : ℕ) where
  abbrev tests : List Bool
  tests = constraints (view r n i)

  -- the row's number is 0 exactly if all constraints hold there
  pub broken_zero : (broken_at r n i ≡ 0) ↔ AllHold r n i
  unfolding broken_at first_broken
  broken_zero = (λ e. all_hold r n i (zero_pass 0 tests e), λ a. pass_zero 1 tests (λ j h. each r n i a j))

  -- any other number is that of the first constraint that fails there
  broken_first : (m : ℕ) → (broken_at r n i ≡ suc m) ↔ FirstFails tests m
  unfolding broken_at first_broken
  broken_first m = (there, λ f. omega (arith, fails_some 1 m tests f))
    where
      there : broken_at r n i ≡ suc m → FirstFails tests m
      there e =
          let (j, q, f) = some_fails 1 (suc m) tests e (omega arith) in
          let p : j ≡ m = omega arith in
          subst (FirstFails tests) p f

-- the rows below i meet the constraints exactly if all hold at each of them
pub judged_meet : (r : ℕ → Cells) (n i : ℕ) → (judged (broken_at r n) i ≡ meet) ↔ ((j : ℕ) → j < i → AllHold r n j)
judged_meet r n i =
    let (there, back) = judged-zero (broken_at r n) i in
    (λ e j h. (broken_zero r n j).0 (there e j h), λ a. back (λ j h. (broken_zero r n j).1 (a j h)))

module _ (r : ℕ → Cells) (n i : ℕ) where
  lower_holds : (m : ℕ) → FirstFails (tests r n i) m → (k : ℕ) → 1 ≤ k → k < suc m → Holds r n i k
  unfolding constraint
  lower_holds m f zero a b = refl
  lower_holds m f (suc k) a b = f.lower k (le_of_suc-le-suc b)

  stops_first : (k : ℕ) → i < n → Stops (broken_at r n) i k → FirstBroken r n i k
  unfolding constraint
  stops_first zero h s = absurd (omega (arith, s.from))
  stops_first (suc m) h s =
      let f = (broken_first r n i m).0 s.number in
      record {
        row = h;
        from = s.from;
        to = fails_in m (tests r n i) f.fails;
        fails = f.fails;
        lower = lower_holds m f;
        earlier = (judged_meet r n i).0 s.earlier;
      }

  first_stops : (k : ℕ) → FirstBroken r n i k → Stops (broken_at r n) i k
  unfolding constraint
  first_stops zero b = absurd (omega (arith, b.from))
  first_stops (suc m) b = record {
    from = b.from;
    number = (broken_first r n i m).1 (record { fails = b.fails; lower = λ j h. b.lower (suc j) (omega arith) (omega arith) });
    earlier = (judged_meet r n i).1 b.earlier;
  }

  -- the judgement of all rows names the first broken constraint of the first row that breaks one
  pub judged_break : (k : ℕ) → (judged (broken_at r n) n ≡ break i k) ↔ FirstBroken r n i k
  judged_break k =
      let (there, back) = judged_stops (broken_at r n) n i k in
      (λ e. stops_first k (there e).0 (there e).1, λ b. back (b.row, first_stops k b))

-- ---- what a row's number depends on: the rows up to it, and whether it is the last

row_before_local : (r t : ℕ → Cells) (i : ℕ) → ((j : ℕ) → j < i → r j ≡ t j) → row_before r i ≡ row_before t i
row_before_local r t zero h = refl
row_before_local r t (suc i) h = h i (omega arith)

-- the states before a row depend on the rows below it
pub before_local : (r t : ℕ → Cells) (i : ℕ) → ((j : ℕ) → j < i → r j ≡ t j) → before r i ≡ before t i
unfolding before
before_local r t zero h = refl
before_local r t (suc i) h = ap₂ passed (before_local r t i (λ j l. h j (omega arith))) (h i (omega arith))

module _ (r t : ℕ → Cells) (n m i : ℕ) (h : (j : ℕ) → j ≤ i → r j ≡ t j) (e : eqb (suc i) n ≡ eqb (suc i) m) where
  view_local : view r n i ≡ view t m i
  view_local =
      let below : (j : ℕ) → j < i → r j ≡ t j = λ j l. h j (omega arith) in
      let this : r i ≡ t i = h i (omega arith) in
      λ p. record {
        two = row_before_local (row_before r) (row_before t) i (λ j l. row_before_local r t j (λ k q. below k (omega arith))) p;
        one = row_before_local r t i below p;
        this = this p;
        state = before_local r t i below p (context_of (this p));
        first = eqb i 0;
        last = e p;
      }

  -- so does the first broken constraint of a row
  pub first_broken_local : broken_at r n i ≡ broken_at t m i
  unfolding broken_at
  first_broken_local = ap first_broken view_local

-- ---- bytes

neither : (x y : Bool) → (x || y) ≡ false → (x ≡ false) × (y ≡ false)
neither true y e = (e, cc)
neither false y e = (refl, e)

module _ (l : List ℕ) where
  abbrev rows : ℕ
  rows = length l / row_bytes

  abbrev rest : ℕ
  rest = length l % row_bytes

  -- the test for refusal 9
  abbrev pub unfit : Bool
  unfit = eqb (length l) 0 || not (eqb rest 0)

  -- it passes where there is no byte or a part of a row
  pub unfit_true : (unfit ≡ true) ↔ ((length l ≡ 0) ⊎ (rest ≢ 0))
  unfit_true = (there, back)
    where
      there : unfit ≡ true → (length l ≡ 0) ⊎ (rest ≢ 0)
      there e =
          ⊎_elim (λ z. inl (eqb-true (length l) 0 z)) (λ p. inr (eqb-false rest 0 (not-true (eqb rest 0) p)))
          (either _ _ e)

      back : (length l ≡ 0) ⊎ (rest ≢ 0) → unfit ≡ true
      back (inl z) = either_left _ _ (eq-eqb (length l) 0 z)
      back (inr p) = either_right (eqb (length l) 0) _ (ap not (ne_eqb rest 0 p))

  -- and fails where there are bytes of whole rows
  pub unfit_false : (unfit ≡ false) ↔ ((0 < length l) × (rest ≡ 0))
  unfit_false = (there, λ (h, q). rw (ne_eqb (length l) 0 (omega arith), eq-eqb rest 0 q))
    where
      there : unfit ≡ false → (0 < length l) × (rest ≡ 0)
      there e =
          let (z, p) = neither (eqb (length l) 0) (not (eqb rest 0)) e in
          (omega (arith, eqb-false (length l) 0 z), eqb-true rest 0 (not-false (eqb rest 0) p))

  -- what each verdict says of the bytes
  abbrev Means : Verdict → Type 0
  Means (accepted c) = Meets l c
  Means (broken i k) = WellSized l × FirstBroken (row_at l) rows i k
  Means (refused m) = ((m ≡ bad_length) × ((length l ≡ 0) ⊎ (rest ≢ 0))) ⊎ ((m ≡ too_many_rows) × (rest ≡ 0) × (max_rows < rows))

  verdict_says : Means (verdict l)
  unfolding verdict
  verdict_says = go unfit refl (ltb max_rows rows) refl (judged (broken_at (row_at l) rows) rows) refl
    where
      sized : unfit ≡ false → ltb max_rows rows ≡ false → WellSized l
      sized p q =
          let (some, whole) = unfit_false.0 p in
          record { some = some; whole = whole; rows = ltb-false max_rows rows q }

      go : (s : Bool) → unfit ≡ s → (t : Bool) → ltb max_rows rows ≡ t → (j : Judgement) → judged (broken_at (row_at l) rows) rows ≡ j
          → Means (pick s (refused bad_length) (pick t (refused too_many_rows) (verdict_by j (counts (rows_of l)))))
      go true p t q j e = inl (refl, unfit_true.0 p)
      go false p true q j e = inr (refl, (unfit_false.0 p).1, ltb-true max_rows rows q)
      go false p false q meet e = record { sized = sized p q; holds = (judged_meet (row_at l) rows rows).0 e; counted = refl }
      go false p false q (break i k) e = (sized p q, (judged_break (row_at l) rows i k).0 e)

  -- the verdict on whole rows, one to 65,536 of them, is the judgement on them
  pub sized_verdict : WellSized l → verdict l ≡ verdict_by (judged (broken_at (row_at l) rows) rows) (counts (rows_of l))
  unfolding verdict
  sized_verdict w = rw (unfit_false.1 (w.some, w.whole), le-ltb max_rows rows w.rows)

  long_some : max_rows < rows → 0 < length l
  long_some h = omega arith

  says_verdict : (v : Verdict) → Means v → verdict l ≡ v
  unfolding verdict
  says_verdict (accepted c) m = rw (sized_verdict m.sized, (judged_meet (row_at l) rows rows).1 m.holds, m.counted)
  says_verdict (broken i k) (w, f) = rw (sized_verdict w, (judged_break (row_at l) rows i k).1 f)
  says_verdict (refused m) (inl (e, u)) = rw (e, unfit_true.1 u)
  says_verdict (refused m) (inr (e, q, h)) = rw (e, unfit_false.1 (long_some h, q), lt-ltb max_rows rows h)

  verdict_is : (v : Verdict) → (verdict l ≡ v) ↔ Means v
  verdict_is v = (λ e. subst Means e verdict_says, says_verdict v)

  -- accepted exactly if the size is right, all constraints hold at all rows, and the counts are the rows' counts
  pub verdict_accepted : (c : Counts) → (verdict l ≡ accepted c) ↔ Meets l c
  verdict_accepted c = verdict_is (accepted c)

  -- broken at i, k exactly if the size is right, row i is the first that breaks a constraint, and k the first that it breaks
  pub verdict_broken : (i k : ℕ) → (verdict l ≡ broken i k) ↔ (WellSized l × FirstBroken (row_at l) (length l / row_bytes) i k)
  verdict_broken i k = verdict_is (broken i k)

  -- refused by number 9 exactly if there are no bytes or no whole number of rows
  pub refused_length : (verdict l ≡ refused bad_length) ↔ ((length l ≡ 0) ⊎ (length l % row_bytes ≢ 0))
  refused_length =
      let (there, back) = verdict_is (refused bad_length) in
      (λ e. ⊎_elim (λ p. p.1) (λ p. absurd (omega arith)) (there e), λ u. back (inl (refl, u)))

  -- and by number 10 exactly if there are whole rows, but too many
  pub refused_rows : (verdict l ≡ refused too_many_rows) ↔ ((length l % row_bytes ≡ 0) × (max_rows < length l / row_bytes))
  refused_rows =
      let (there, back) = verdict_is (refused too_many_rows) in
      (λ e. ⊎_elim (λ p. absurd (omega arith)) (λ p. (p.1, p.2)) (there e), λ (w, h). back (inr (refl, w, h)))

  -- there is no other refusal
  pub refused_number : (m : ℕ) → verdict l ≡ refused m → (m ≡ bad_length) ⊎ (m ≡ too_many_rows)
  refused_number m e = ⊎_elim (λ p. inl p.0) (λ p. inr p.0) ((verdict_is (refused m)).0 e)
