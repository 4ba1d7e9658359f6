-- Every row of the trace of valid claims, after an empty row or more, meets the constraints.
use Prim.Native.Nat.{ℕ, zero, suc, ◌+◌, ◌-◌, ◌<◌, ◌≤◌}
use mathlib.Core.Bool.{Bool, true, false}
use mathlib.Core.List.{List, [], ◌∷◌, ◌++◌}
use mathlib.Core.Path.{◌≡◌, refl, sym, ◌∙◌, ap, subst}
use native.Mathlib.Decide.{dec_lt}
use native.Mathlib.Nat.{add-suc, add-zero, add_assoc, suc-ne-zero, zero-add}
use native.Mathlib.Omega.{arith}
use borrow.Author.Tests.{eqb-true, ne_eqb}
use lib.Dec.{eqb}
use lib.ListN.{length, replicate, length-append, length-replicate, get_or-replicate, get_or-append}
use lib.Seq.{get_or-append-add}
use Rattle.model.specs.Columns.{Cells, empty_row, row_in}
use Rattle.model.specs.Constraints.{in_use, constraints, k1, k2, k3, k4, k5, k6, k26}
use Rattle.model.specs.Cycles.{Claim}
use Rattle.model.specs.Promises.{AllHold, ValidClaim, Valid}
use Rattle.model.specs.State.{Context, State, context_of, fresh}
use Rattle.model.specs.Steps.{stamp_moves, ct_moves}
use Rattle.model.specs.Trace.{last_of, row_of, cycle_of, after_claim, cycles_of, trace}
use Rattle.model.specs.Verdict.{row_before, before, view}
use Rattle.model.proofs.BeforeLaws.{before_empties, before-claim}
use Rattle.model.proofs.CycleMeets.{Leads, Behind, Passes, row_meets}
use Rattle.model.proofs.JoinLaws.{length_cycle, length-trace}
use Rattle.model.proofs.ReadBack.{is_row, last_of_row}
use Rattle.model.proofs.RowFacts.{all_hold}
use Rattle.model.proofs.RowTests.{stamp_next, ct_starts}
use Rattle.model.proofs.StateLaws.{AllSound, all_sound_fresh, all_sound_after}
use Rattle.model.proofs.TableOf.{get_or-table}
use Rattle.model.proofs.TestFacts.{all_at}

-- rows stand at p
abbrev pub Stands : (ℕ → Cells) → ℕ → List Cells → Type 0
Stands r p rows = (i : ℕ) → i < length rows → r (p + i) ≡ row_in rows i

stands_first : (r : ℕ → Cells) (p : ℕ) (xs ys : List Cells) → Stands r p (xs ++ ys) → Stands r p xs
stands_first r p xs ys h i l = h i (omega (arith, length-append xs ys)) ∙ get_or-append xs ys empty_row i l

stands_rest : (r : ℕ → Cells) (p : ℕ) (xs ys : List Cells) → Stands r p (xs ++ ys) → Stands r (p + length xs) ys
stands_rest r p xs ys h i l =
    ap r (add_assoc p (length xs) i) ∙ h (length xs + i) (omega (arith, length-append xs ys)) ∙ get_or-append-add xs ys i empty_row

-- ---- empty rows

pub empty_meets : (a : Cells) (q : State) (first last : Bool)
    → Passes (record { two = a; one = empty_row; this = empty_row; state = q; first = first; last = last })
unfolding k1 k2 k3 k4 k5 k6 k26 in_use stamp_moves ct_moves
empty_meets a q true true = refl
empty_meets a q true false = refl
empty_meets a q false true = refl
empty_meets a q false false = refl

module _ (r : ℕ → Cells) (n : ℕ) where
  pub from_meets : (i : ℕ) → Passes (view r n i) → AllHold r n i
  from_meets i h = all_hold r n i (all_at (constraints (view r n i)) h)

  -- ---- one cycle, after row p
  module _ (p k : ℕ) (states : Context → State) (c : Claim) (sound : AllSound states) (valid : ValidClaim c) (fits : suc p + last_of c < n)
      (leads : Leads (r p) (suc k)) (stands : Stands r (suc p) (cycle_of (suc k) (states c.context) c)) (b : before r (suc p) ≡ states) where
    abbrev s : State
    s = states c.context

    abbrev row : ℕ → Cells
    row i = row_of (suc k) s c i

    pub at : (i : ℕ) → i ≤ last_of c → r (suc p + i) ≡ row i
    unfolding cycle_of
    at i l = stands i (rw length_cycle (omega arith)) ∙ get_or-table (suc (last_of c)) row i empty_row (omega arith)

    behind : (i : ℕ) → i ≤ last_of c
        → Behind row (suc k) s i (row_before (row_before r) (suc p + i)) (row_before r (suc p + i)) (before r (suc p + i) (context_of (row i)))
    behind i l = record {
      leads = λ e. rw (e, add-zero) leads;
      state = λ e. rw (e, add-zero, b) (ap states (rw e at (is_row (suc k) s c i).context));
      one = λ j e. rw (e, add-suc) (at j (omega arith));
      two = λ j e. rw (e, add-suc, add-suc) (at j (omega arith));
    }

    last_row : (i : ℕ) → i ≤ last_of c → eqb (suc (suc p + i)) n ≡ true → i ≡ last_of c
    last_row i l e = omega (arith, eqb-true (suc (suc p + i)) n e)

    pub cycle_holds : (i : ℕ) → i ≤ last_of c → AllHold r n (suc p + i)
    cycle_holds i l =
        let m = row_meets k s c (sound c.context) valid i l _ _ _ (behind i l) (eqb (suc (suc p + i)) n) (last_row i l) in
        let first : eqb (suc p + i) 0 ≡ false = ne_eqb (suc p + i) 0 (λ e. absurd (omega arith)) in
        from_meets (suc p + i) (rw (at i l, first) m)

    pub leads_next : Leads (r (suc p + last_of c)) (suc (suc k))
    leads_next =
        let f = is_row (suc k) s c (last_of c) in
        rw (at (last_of c) (omega arith)) (record {
          stamps = rw (f.stamp, f.ct, last_of_row (suc k) s c (last_of c)) (stamp_next (suc k) (last_of c) (last_of c) (suc-ne-zero k) refl);
          cts = rw (f.stamp, f.ct) (ct_starts (suc k) (last_of c) (suc (suc k)) (λ e. absurd (omega arith)));
        })

    pub before_next : before r (suc p + suc (last_of c)) ≡ after_claim states c
    before_next =
        before-claim r (suc p) (last_of c) (suc k) c (suc-ne-zero k) (λ i l. rw b (at i l)) ∙ ap (λ (states : Context → State). after_claim states c) b

  -- ---- the cycles of claims, after row p

  abbrev From : ℕ → Type 0
  From p = (i : ℕ) → p ≤ i → i < n → AllHold r n i

  over_cycle : (p m : ℕ) → ((i : ℕ) → i ≤ m → AllHold r n (p + i)) → From (p + suc m) → From p
  over_cycle p m h rest i l k = go (dec_lt i (p + suc m))
    where
      go : Dec (i < p + suc m) → AllHold r n i
      go (yes d) = (let e : p + (i - p) ≡ i = omega arith in subst (AllHold r n) e (h (i - p) (omega arith)))
      go (no d) = rest i (omega arith) k

  abbrev Goes : List Claim → Type 0
  Goes cs = (p k : ℕ) (states : Context → State) → AllSound states → Valid cs → suc p + length (cycles_of (suc k) states cs) ≡ n → Leads (r p) (suc k)
      → Stands r (suc p) (cycles_of (suc k) states cs) → before r (suc p) ≡ states → From (suc p)

  goes_nil : Goes []
  unfolding cycles_of
  goes_nil p k states sound valid e leads stands b i l h = absurd (omega arith)

  goes_cons : (c : Claim) (cs : List Claim) → Goes cs → Goes (c ∷ cs)
  unfolding cycles_of
  goes_cons c cs ih p k states sound valid e leads stands b =
      let xs : List Cells = cycle_of (suc k) (states c.context) c in
      let ys : List Cells = cycles_of (suc (suc k)) (after_claim states c) cs in
      let lx : length xs ≡ suc (last_of c) = length_cycle (suc k) (states c.context) c in
      let ly : length (xs ++ ys) ≡ length xs + length ys = length-append xs ys in
      let fits : suc p + last_of c < n = omega arith in
      let first : Stands r (suc p) xs = stands_first r (suc p) xs ys stands in
      let next : suc p + suc (last_of c) ≡ suc (suc p + last_of c) = add-suc (suc p) (last_of c) in
      let rest : Stands r (suc (suc p + last_of c)) ys = rw (lx, next) at (stands_rest r (suc p) xs ys stands) in
      over_cycle (suc p) (last_of c) (cycle_holds p k states c sound valid.0 fits leads first b)
      (rw next (ih (suc p + last_of c) (suc k) (after_claim states c) (all_sound_after states c sound) valid.1 (omega arith)
      (leads_next p k states c sound valid.0 fits leads first b) rest
      (rw next at (before_next p k states c sound valid.0 fits leads first b))))

  goes : (cs : List Claim) → Goes cs
  goes [] = goes_nil
  goes (c ∷ cs) = goes_cons c cs (goes cs)

-- ---- the trace

module _ (e : ℕ) (cs : List Claim) (some : 0 < e) (valid : Valid cs) where
  abbrev blanks : List Cells
  blanks = replicate e empty_row

  abbrev after-blanks : List Cells
  after-blanks = cycles_of 1 fresh cs

  abbrev rows : List Cells
  rows = trace e cs

  abbrev row_here : ℕ → Cells
  row_here i = row_in rows i

  empties : (i : ℕ) → i < e → row_here i ≡ empty_row
  unfolding trace
  empties i l = get_or-append blanks after-blanks empty_row i (rw length-replicate l) ∙ get_or-replicate e i empty_row empty_row l

  cycles_stand : Stands row_here e after-blanks
  unfolding trace
  cycles_stand = rw (length-replicate, zero-add) at (stands_rest row_here 0 blanks after-blanks (λ i l. ap row_here (zero-add i)))

  empty_before : (i : ℕ) → i < e → row_before row_here i ≡ empty_row
  empty_before zero l = refl
  empty_before (suc i) l = empties i (omega arith)

  empty_holds : (i : ℕ) → i < e → AllHold row_here (length rows) i
  empty_holds i l =
      from_meets row_here (length rows) i (rw (empties i l, empty_before i l)
      (empty_meets (row_before (row_before row_here) i) (before row_here i (context_of empty_row)) (eqb i 0) (eqb (suc i) (length rows))))

  leads_first : Leads empty_row 1
  unfolding stamp_moves ct_moves
  leads_first = record { stamps = refl; cts = refl }

  -- after the last empty row
  cycles_hold : (p : ℕ) → suc p ≡ e → From row_here (length rows) e
  cycles_hold p q =
      subst (From row_here (length rows)) q (goes row_here (length rows) cs p 0 fresh all_sound_fresh valid (rw q (sym (length-trace e cs)))
      (rw (empties p (omega arith)) leads_first) (rw q cycles_stand) (rw q (before_empties row_here e empties)))

  -- all constraints hold at each row of the trace
  pub trace_holds : (i : ℕ) → i < length rows → AllHold row_here (length rows) i
  trace_holds i l = go (dec_lt i e)
    where
      go : Dec (i < e) → AllHold row_here (length rows) i
      go (yes h) = empty_holds i h
      go (no h) = cycles_hold (e - 1) (omega arith) i (omega arith) l
