-- Rows that meet the constraints are the trace of their claims after their empty rows.
use Prim.Native.Nat.{ℕ, zero, suc, ◌+◌, ◌<◌, ◌≤◌}
use mathlib.Core.Bool.{true, false}
use mathlib.Core.List.{List, [], ◌∷◌, ◌++◌}
use mathlib.Core.Logic.{◌≢◌}
use mathlib.Core.Path.{◌≡◌, refl, sym, ◌∙◌, ap}
use native.Mathlib.Nat.{add-suc, add-zero, suc-ne-zero}
use native.Mathlib.Omega.{arith}
use borrow.Author.Tests.{eqb-true, eq-eqb, leb-true, eqb-false, not-true}
use lib.Dec.{eqb}
use lib.ListN.{drop, replicate}
use lib.Seq.{drop-length}
use Rattle.number.specs.Cells.{Fit}
use Rattle.number.proofs.TestLaws.{both_intro}
use Rattle.model.specs.Columns.{Cells, columns, widths, cells_in, of_list, empty_row, table}
use Rattle.model.specs.Constraints.{in_last, out_last, last_ct, View, k1, k2, k3, k4, k6, k7, k26}
use Rattle.model.specs.Cycles.{Claim, claim_of}
use Rattle.model.specs.Promises.{AllHold, ValidClaim, Valid}
use Rattle.model.specs.State.{Context, State, context_of, fresh}
use Rattle.model.specs.Trace.{in_bounds, last_of, row_of, cycle_of, after_claim, cycles_of, trace}
use Rattle.model.specs.Verdict.{before, view}
use Rattle.model.proofs.BeforeLaws.{before_empty, before-claim}
use Rattle.model.proofs.ConstraintFacts.{says5, says9}
use Rattle.model.proofs.CycleRows.{Rows, state_in}
use Rattle.model.proofs.InUnique.{in_claim, in_unique}
use Rattle.model.proofs.OutUnique.{out_claim, out_unique}
use Rattle.model.proofs.RowFacts.{Each, each, in_use_lem, of_used}
use Rattle.model.proofs.StepLaws.{Steps, Start, Run, At, run, steady, over_cycles, over_empty}
use Rattle.model.proofs.TableOf.{length-table, table_path, drop-first, drop-table}
use Rattle.model.proofs.TestFacts.{implies_use, if_equal_use, if_unequal_use, zeros_are}

module _ (r : ℕ → Cells) (n : ℕ) (some : 0 < n) (holds : (i : ℕ) → i < n → AllHold r n i)
    (fit : (i : ℕ) → i < n → Fit widths (cells_in columns (r i))) where
  abbrev stamp : ℕ → ℕ
  stamp i = (r i).stamp

  abbrev ct : ℕ → ℕ
  ct i = (r i).ct

  abbrev last : ℕ → ℕ
  last i = last_ct (r i).ooob

  each_at : (i : ℕ) → i < n → Each (view r n i)
  each_at i h = each r n i (holds i h)

  -- ---- STAMP and CT move as they should

  ooob_inside : (i : ℕ) → suc i < n → ct (suc i) ≢ 0 → (r (suc i)).ooob ≡ (r i).ooob
  ooob_inside i h z = says5 (r i) (r (suc i)) (each_at (suc i) h 4) z

  steps : Steps n stamp ct last
  unfolding k3 k4 k26
  steps = record {
    stamps = λ i h. if_unequal_use (suc i) 0 _ (each_at (suc i) h 2) (suc-ne-zero i);
    cts = λ i h. each_at (suc i) h 3;
    same = λ i h z. ap last_ct (ooob_inside i h z);
    whole = λ i e z. eqb-true _ _ (implies_use _ _ (each_at i (omega arith) 25) (both_intro _ _ (eq-eqb (suc i) n e) (in_use_lem (r i) z)));
  }

  first_stamp : stamp 0 ≡ 0
  unfolding k2
  first_stamp = eqb-true (stamp 0) 0 (each_at 0 some 1)

  -- ---- one cycle, after row p

  abbrev Begins : ℕ → Type 0
  Begins p = Start n stamp ct last steps p

  module _ (p : ℕ) (b : Begins (suc p)) where
    abbrev x : Cells
    x = r (suc p)

    at : (i : ℕ) → i ≤ last (suc p) → Run n stamp ct last steps (suc p) i
    at i h = run n stamp ct last steps (suc p) b i h

    abbrev seen : ℕ → View
    seen i = view r n (suc p + i)

    ooob_at : (i : ℕ) → i ≤ last (suc p) → (r (suc p + i)).ooob ≡ x.ooob
    ooob_at i h = steady n stamp ct last steps (λ i. (r i).ooob) ooob_inside (suc p) b i h

    rows : (m o : ℕ) → m ≡ last (suc p) → o ≡ x.ooob → Rows m o seen
    rows m o em eo = record {
      one = λ i h. rw add-suc;
      two = λ i h. rw (add-suc, add-suc);
      used = λ i h z. b.used (sym (at i (omega arith)).same_stamp ∙ z);
      stamp = λ i h. (at i (omega arith)).same_stamp ∙ rw add-zero;
      ooob = λ i h. ooob_at i (omega arith) ∙ sym eo;
      ct = λ i h. (at i (omega arith)).place;
      each = λ i h. each_at (suc p + i) (at i (omega arith)).fits;
      fit = λ i h. fit (suc p + i) (at i (omega arith)).fits;
    }

    -- its rows are those of the claim and the state that its first row shows
    record Is : Type 0 where
      last_is : last (suc p) ≡ last_of (claim_of x)
      rows_are : (i : ℕ) → i ≤ last (suc p) → r (suc p + i) ≡ row_of x.stamp (state_in x) (claim_of x) i

    is_in : x.ooob ≡ 0 → Is
    unfolding last_ct last_of
    is_in e =
        let m : in_last ≡ last (suc p) = rw e in
        let u : Rows in_last 0 seen = rows in_last 0 m (sym e) in
        let inside : in_bounds (claim_of x) ≡ true = rw add-zero at (in_claim seen u) in
        record { last_is = sym m ∙ rw inside; rows_are = λ i h. rw add-zero at (in_unique seen u i (omega arith)) }

    is_out : x.ooob ≡ 1 → Is
    unfolding last_ct last_of
    is_out e =
        let m : out_last ≡ last (suc p) = rw e in
        let u : Rows out_last 1 seen = rows out_last 1 m (sym e) in
        let outside : in_bounds (claim_of x) ≡ false = rw add-zero at (out_claim seen u) in
        record { last_is = sym m ∙ rw outside; rows_are = λ i h. rw add-zero at (out_unique seen u i (omega arith)) }

    is : Is
    unfolding k1
    is = go x.ooob refl (leb-true x.ooob 1 (each_at (suc p) b.fits 0))
      where
        go : (o : ℕ) → x.ooob ≡ o → o ≤ 1 → Is
        go zero e l = is_in e
        go (suc zero) e l = is_out e
        go (suc (suc o)) e l = absurd (omega arith)

    -- the state that it shows is that of its context
    state_is : state_in x ≡ before r (suc p) (context_of x)
    state_is =
        let e = says9 (before r (suc p) (context_of x)) x (of_used x b.used _ (each_at (suc p) b.fits 8)) b.first in
        λ j. record { mem = e.0 j; cost = e.1 j }

    rows_of_lem : (i : ℕ) → i ≤ last (suc p) → r (suc p + i) ≡ row_of x.stamp (before r (suc p) (context_of x)) (claim_of x) i
    rows_of_lem i h = is.rows_are i h ∙ ap (λ (s : State). row_of x.stamp s (claim_of x) i) state_is

    valid : ValidClaim (claim_of x)
    unfolding k7 Fit
    valid =
        let t : k7 x ≡ true = of_used x b.used _ (each_at (suc p) b.fits 6) in
        let f = fit (suc p) b.fits in
        let z : x.cn ≢ 0 = eqb-false x.cn 0 (not-true (eqb x.cn 0) t) in
        record { some = omega arith; cn = f.1.0; end1 = f.1.1.1.1.0; end2 = f.1.1.1.1.1.0 }

    before_next : before r (suc p + suc (last (suc p))) ≡ after_claim (before r (suc p)) (claim_of x)
    before_next = before-claim r (suc p) (last (suc p)) x.stamp (claim_of x) b.used rows_of_lem

    -- the rows of its claim
    abbrev own : List Cells
    own = cycle_of x.stamp (before r (suc p) (context_of x)) (claim_of x)

  -- ---- all cycles, and the empty rows before them

  abbrev rows_here : List Cells
  rows_here = table n r

  -- from row p on stand the cycles of valid claims, the first with the stamp s
  record CyclesFrom (p s : ℕ) : Type 0 where
    claims : List Claim
    are_valid : Valid claims
    stand : drop p rows_here ≡ cycles_of s (before r p) claims

  cycles_end : (s : ℕ) → CyclesFrom n s
  unfolding cycles_of
  cycles_end s = record { claims = []; are_valid = tt; stand = rw (length-table n r) at (drop-length rows_here) }

  cycle_stands_lem : (p : ℕ) (b : Begins (suc p)) → drop (suc p) rows_here ≡ own p b ++ drop (suc p + suc (last (suc p))) rows_here
  unfolding cycle_of
  cycle_stands_lem p b =
      let m : ℕ = last (suc p) in
      let fits : suc p + suc m ≤ n = omega (arith, (run n stamp ct last steps (suc p) b m (omega arith)).fits) in
      let same = table_path (suc m) (λ i. r (suc p + i)) _ (λ i h. rows_of_lem p b i (omega arith)) in
      rw (← (is p b).last_is) (drop-table n r (suc m) (suc p) fits ∙ ap (λ (l : List Cells). l ++ drop (suc p + suc m) rows_here) same)

  cycles_next : (p : ℕ) → Begins (suc p) → CyclesFrom (suc p + suc (last (suc p))) (suc (stamp (suc p))) → CyclesFrom (suc p) (stamp (suc p))
  unfolding cycles_of
  cycles_next p b rest =
      let states = ap (λ (states : Context → State). cycles_of (suc (stamp (suc p))) states rest.claims) (before_next p b) in
      record {
        claims = claim_of (r (suc p)) ∷ rest.claims;
        are_valid = (valid p b, rest.are_valid);
        stand = cycle_stands_lem p b ∙ ap (λ (l : List Cells). own p b ++ l) (rest.stand ∙ states);
      }

  cycles_over : (p : ℕ) → Begins p → CyclesFrom (p + suc (last p)) (suc (stamp p)) → CyclesFrom p (stamp p)
  cycles_over zero b rest = absurd (b.used first_stamp)
  cycles_over (suc p) b rest = cycles_next p b rest

  cycles-from : (p s : ℕ) → 0 < s → At n stamp ct last steps p s → CyclesFrom p s
  cycles-from p s z a = over_cycles n stamp ct last steps CyclesFrom cycles_end cycles_over p s z a

  empty_is : (i : ℕ) → i < n → stamp i ≡ 0 → r i ≡ empty_row
  unfolding k6
  empty_is i h e = ap of_list (zeros_are (cells_in columns (r i)) (if_equal_use (stamp i) 0 _ (each_at i h 5) e))

  -- from row p on stand an empty row or more, and the cycles of valid claims
  record Whole (p : ℕ) : Type 0 where
    more : ℕ
    claims : List Claim
    are_valid : Valid claims
    stand : drop p rows_here ≡ replicate (suc more) empty_row ++ cycles_of 1 fresh claims

  abbrev From : ℕ → Type 0
  From p = before r p ≡ fresh → Whole p

  drop_empty : (p : ℕ) → p < n → stamp p ≡ 0 → drop p rows_here ≡ empty_row ∷ drop (suc p) rows_here
  drop_empty p h e = drop-first n r p h ∙ ap (λ (x : Cells). x ∷ drop (suc p) rows_here) (empty_is p h e)

  from_first : (p : ℕ) → p < n → stamp p ≡ 0 → At n stamp ct last steps (suc p) 1 → From p
  from_first p h e a b =
      let f : CyclesFrom (suc p) 1 = cycles-from (suc p) 1 (omega arith) a in
      let c : before r (suc p) ≡ fresh = before_empty r p (empty_is p h e) ∙ b in
      record {
        more = 0;
        claims = f.claims;
        are_valid = f.are_valid;
        stand = drop_empty p h e
            ∙ ap (λ (l : List Cells). empty_row ∷ l) (f.stand ∙ ap (λ (states : Context → State). cycles_of 1 states f.claims) c);
      }

  from_more : (p : ℕ) → suc p < n → stamp p ≡ 0 → From (suc p) → From p
  from_more p h e rest b =
      let w : Whole (suc p) = rest (before_empty r p (empty_is p (omega arith) e) ∙ b) in
      record {
        more = suc w.more;
        claims = w.claims;
        are_valid = w.are_valid;
        stand = drop_empty p (omega arith) e ∙ ap (λ (l : List Cells). empty_row ∷ l) w.stand;
      }

  -- rows that meet all constraints and fit are the trace of valid claims after an empty row or more
  pub rows_are_trace : (more : ℕ) × (cs : List Claim) × (Valid cs) × (table n r ≡ trace (suc more) cs)
  unfolding before trace
  rows_are_trace =
      let w : Whole 0 = over_empty n stamp ct last steps From from_first from_more 0 some first_stamp refl in
      (w.more, w.claims, w.are_valid, w.stand)
