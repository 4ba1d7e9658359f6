-- One cycle more: where the rows before row i meet the constraints and the cycle of a valid claim stands from row i on, at the next stamp and at the
-- state of its context, the rows before its end meet them too. And what it adds to the counts.
use Prim.Native.Nat.{ℕ, zero, suc, ◌+◌, ◌-◌, ◌<◌, ◌≤◌}
use mathlib.Core.Bool.{not}
use mathlib.Core.List.{List, [], ◌∷◌, ◌++◌}
use mathlib.Core.Path.{◌≡◌, refl, sym, ◌∙◌, ap, subst}
use native.Mathlib.Decide.{dec_lt}
use native.Mathlib.Nat.{add-suc, add-zero, suc-add, zero-add}
use native.Mathlib.Omega.{arith}
use lib.Dec.{eqb}
use lib.ListN.{length-append}
use Rattle.model.specs.Columns.{Cells, empty_row, table}
use Rattle.model.specs.Cycles.{Claim, count, is_oob, empty_rows, counts}
use Rattle.model.specs.Promises.{AllHold, ValidClaim}
use Rattle.model.specs.State.{Context, State, context_of}
use Rattle.model.specs.Steps.{stamp_moves, ct_moves}
use Rattle.model.specs.Tests.{bit}
use Rattle.model.specs.Trace.{in_bounds, last_of, with_cycle, row_of, cycle_of}
use Rattle.model.specs.Verdict.{row_before, before, broken_at, judged, meet}
use Rattle.model.proofs.BeforeLaws.{before_empties}
use Rattle.model.proofs.CycleMeets.{Leads}
use Rattle.model.proofs.JoinLaws.{length_cycle}
use Rattle.model.proofs.ReadBack.{cycles_join, cycles-one, oob_of_row, count_join, empty_cycle}
use Rattle.model.proofs.StateLaws.{AllSound, all_sound_fresh, all_sound_after}
use Rattle.model.proofs.TableOf.{get_or-table, table_path}
use Rattle.model.proofs.TraceMeets.{Stands, empty_meets, from_meets, cycle_holds, leads_next, before_next}
use Rattle.model.proofs.VerdictLaws.{judged_meet}

-- k cycles end with the row before row i of n, and all rows before it meet the constraints: a cycle may start with row i
pub record Ready (r : ℕ → Cells) (n i k : ℕ) : Type 0 where
  pub some : 0 < i
  pub meets : judged (broken_at r n) i ≡ meet
  pub leads : Leads (row_before r i) (suc k)
  pub sound : AllSound (before r i)

-- the cycle of the claim stands from row i on, at this stamp and at the state of its context
abbrev pub CycleAt : (ℕ → Cells) → (i stamp : ℕ) → Claim → Type 0
CycleAt r i stamp c = (j : ℕ) → j ≤ last_of c → r (i + j) ≡ row_of stamp (before r i c.context) c j

-- ---- empty rows

module _ (r : ℕ → Cells) (n e : ℕ) (empty : (j : ℕ) → j < e → r j ≡ empty_row) where
  empty_before : (i : ℕ) → i < e → row_before r i ≡ empty_row
  empty_before zero l = refl
  empty_before (suc i) l = empty i (omega arith)

  empty_holds : (i : ℕ) → i < e → AllHold r n i
  empty_holds i l =
      from_meets r n i (rw (empty i l, empty_before i l) (empty_meets (row_before (row_before r) i) (before r i (context_of empty_row)) (eqb i 0) (eqb (suc i) n)))

  -- empty rows meet the constraints
  pub empty_judged : judged (broken_at r n) e ≡ meet
  empty_judged = (judged_meet r n e).1 empty_holds

  leads_first : Leads empty_row 1
  unfolding stamp_moves ct_moves
  leads_first = record { stamps = refl; cts = refl }

  leads_by : (m : ℕ) → m ≡ e → 0 < m → Leads (row_before r m) 1
  leads_by zero q some = absurd (omega arith)
  leads_by (suc p) q some = rw (empty p (omega arith)) leads_first

  -- behind one or more of them a cycle may start
  pub ready_first : 0 < e → Ready r n e 0
  ready_first some = record {
    some = some;
    meets = empty_judged;
    leads = leads_by e refl some;
    sound = rw (before_empties r e empty) all_sound_fresh;
  }

-- ---- a cycle

module _ (r : ℕ → Cells) (n : ℕ) (k : ℕ) (c : Claim) (valid : ValidClaim c) where
  module _ (p : ℕ) (ready : Ready r n (suc p) k) (fits : suc p + suc (last_of c) ≤ n) (rows : CycleAt r (suc p) (suc k) c) where
    abbrev states : Context → State
    states = before r (suc p)

    stands : Stands r (suc p) (cycle_of (suc k) (states c.context) c)
    unfolding cycle_of
    stands i l =
        let h : i < suc (last_of c) = rw (length_cycle (suc k) (states c.context) c) at l in
        rows i (omega arith) ∙ sym (get_or-table (suc (last_of c)) (row_of (suc k) (states c.context) c) i empty_row h)

    inside : suc p + last_of c < n
    inside = omega (arith, fits)

    holds : (j : ℕ) → j < suc p + suc (last_of c) → AllHold r n j
    holds j h = go (dec_lt j (suc p))
      where
        go : Dec (j < suc p) → AllHold r n j
        go (yes d) = (judged_meet r n (suc p)).0 ready.meets j d
        go (no d) =
            let e : suc p + (j - suc p) ≡ j = omega arith in
            subst (AllHold r n) e (cycle_holds r n p k states c ready.sound valid inside ready.leads stands refl (j - suc p) (omega (arith, h)))

    next : suc p + suc (last_of c) ≡ suc (suc p + last_of c)
    next = add-suc (suc p) (last_of c)

    ready_over : Ready r n (suc p + suc (last_of c)) (suc k)
    ready_over = record {
      some = omega arith;
      meets = (judged_meet r n (suc p + suc (last_of c))).1 holds;
      leads = rw next (leads_next r n p k states c ready.sound valid inside ready.leads stands refl);
      sound =
          rw (before_next r n p k states c ready.sound valid inside ready.leads stands refl) (all_sound_after states c ready.sound);
    }

  -- behind the cycle of a valid claim, where one may start, the next may start
  pub ready_next : (i : ℕ) → Ready r n i k → i + suc (last_of c) ≤ n → CycleAt r i (suc k) c → Ready r n (i + suc (last_of c)) (suc k)
  ready_next zero ready fits rows = absurd (omega (arith, ready.some))
  ready_next (suc p) ready fits rows = ready_over p ready fits rows

-- ---- counts

table_join : (m i : ℕ) (r : ℕ → Cells) → table (i + m) r ≡ table i r ++ table m (λ j. r (i + j))
unfolding table
table_join m zero r = ap (λ (k : ℕ). table k r) (zero-add m) ∙ table_path m r (λ j. r (0 + j)) (λ j l. ap r (sym (zero-add j)))
table_join m (suc i) r =
    let rest : table m (λ j. r (suc (i + j))) ≡ table m (λ j. r (suc i + j)) = table_path m (λ j. r (suc (i + j))) (λ j. r (suc i + j)) (λ j l. ap r (sym (suc-add i j))) in
    ap (λ (k : ℕ). table k r) (suc-add i m)
    ∙ ap (λ (xs : List Cells). r 0 ∷ xs) (table_join m i (λ j. r (suc j)) ∙ ap (λ (ys : List Cells). table i (λ j. r (suc j)) ++ ys) rest)

one_oob : (i k : ℕ) (s : State) (c : Claim) → count is_oob (record { first = i; row = row_of (suc k) s c 0 } ∷ []) ≡ bit (not (in_bounds c))
unfolding count
one_oob i k s c = rw (oob_of_row (suc k) s c 0)

pub counts_cycle : (r : ℕ → Cells) (i k : ℕ) (c : Claim) → CycleAt r i (suc k) c
    → counts (table (i + suc (last_of c)) r) ≡ with_cycle (counts (table i r)) c
unfolding counts empty_rows
counts_cycle r i k c rows =
    let s : State = before r i c.context in
    let same : table (suc (last_of c)) (λ j. r (i + j)) ≡ cycle_of (suc k) s c =
    unfold cycle_of in table_path (suc (last_of c)) (λ j. r (i + j)) (row_of (suc k) s c) (λ j l. rows j (omega arith)) in
    rw (table_join (suc (last_of c)) i r, same, cycles_join, count_join, count_join, length-append, cycles-one, one_oob, empty_cycle, add-zero)
