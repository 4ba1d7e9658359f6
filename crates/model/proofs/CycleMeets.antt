-- The rows of a claim's cycle meet every constraint.
use Prim.Native.Nat.{ℕ, zero, suc, ◌≤◌}
use mathlib.Core.Bool.{Bool, true, false, not, ◌&&◌}
use mathlib.Core.Logic.{◌≢◌}
use mathlib.Core.Path.{◌≡◌, refl, sym, ◌∙◌, ap}
use native.Mathlib.Nat.{suc-ne-zero}
use native.Mathlib.Omega.{arith}
use borrow.Author.Tests.{eq-eqb, ne_eqb}
use lib.Dec.{eqb, leb, ltb}
use Rattle.number.specs.Tables.{every}
use Rattle.number.proofs.TestLaws.{both}
use Rattle.model.specs.Columns.{Cells}
use Rattle.model.specs.Constraints.{in_last, out_last, last_ct, in_use, kept, View, constraints}
use Rattle.model.specs.Constraints.{k1, k2, k3, k4, k5, k6, k7, k8, k9, k10, k11, k12, k13}
use Rattle.model.specs.Constraints.{k14, k15, k16, k17, k18, k19, k20, k21, k22, k23, k24, k25, k26}
use Rattle.model.specs.Cycles.{Claim}
use Rattle.model.specs.Promises.{ValidClaim}
use Rattle.model.specs.State.{Context, State, Sound}
use Rattle.model.specs.Steps.{stamp_moves, ct_moves}
use Rattle.model.specs.Tests.{implies, bit}
use Rattle.model.specs.Trace.{in_bounds, last_of, top, in_row, out_row, row_of}
use Rattle.model.proofs.InMeets.{in10, in_row_meets}
use Rattle.model.proofs.OutMeets.{out10, out_row_meets}
use Rattle.model.proofs.ReadBack.{IsRow, is_row, last_of_row}
use Rattle.model.proofs.RowTests.{Within, Beyond, used_met, within_met, beyond_met, stamp_stays, ct_next}
use Rattle.model.proofs.TestFacts.{implies_met, if_equal_met, if_unequal_met, ◌&◌, bit_le, pick_under, equal_self}

-- the row b is one after which a cycle with the stamp s can start
pub record Leads (b : Cells) (s : ℕ) : Type 0 where
  pub stamps : stamp_moves b.stamp b.ct (last_ct b.ooob) s ≡ true
  pub cts : ct_moves b.stamp b.ct s 0 ≡ true

-- what stands before row i of a cycle: a and b are the rows two before and before it, and q is the state of its context
pub record Behind (row : ℕ → Cells) (stamp : ℕ) (s : State) (i : ℕ) (a b : Cells) (q : State) : Type 0 where
  pub leads : i ≡ 0 → Leads b stamp
  pub state : i ≡ 0 → q ≡ s
  pub one : (j : ℕ) → i ≡ suc j → b ≡ row j
  pub two : (j : ℕ) → i ≡ suc (suc j) → a ≡ row j

-- a row that meets all constraints, as it is looked at
abbrev pub Passes : View → Type 0
Passes v = every (λ (t : Bool). t) (constraints v) ≡ true

module _ (k : ℕ) (s : State) (c : Claim) (sound : Sound s) (valid : ValidClaim c) where
  abbrev row : ℕ → Cells
  row i = row_of (suc k) s c i

  abbrev inside : ℕ → Cells
  inside i = in_row (leb c.end2 c.end1) (ltb s.mem (top c)) (suc k) s c i

  abbrev outside : ℕ → Cells
  outside i = out_row (suc k) s c i

  row_in : in_bounds c ≡ true → (i : ℕ) → row i ≡ inside i
  unfolding row_of
  row_in e i = rw e

  row_out : in_bounds c ≡ false → (i : ℕ) → row i ≡ outside i
  unfolding row_of
  row_out e i = rw e

  rows_keep : (i j : ℕ) → kept (row i) ≡ kept (row j)
  unfolding row_of in_row out_row
  rows_keep i j = sym (pick_under kept (in_bounds c) (inside i) (outside i)) ∙ pick_under kept (in_bounds c) (inside j) (outside j)

  says : (i : ℕ) → IsRow (suc k) s c i (row i)
  says i = is_row (suc k) s c i

  module _ (i : ℕ) (l : i ≤ last_of c) (a b : Cells) (q : State) (h : Behind row (suc k) s i a b q) where
    abbrev x : Cells
    x = row i

    -- ---- 1 to 9 and 26

    met1 : k1 x ≡ true
    unfolding k1
    met1 = rw (says i).ooob (bit_le (not (in_bounds c)))

    met3 : k3 false b x ≡ true
    unfolding k3
    met3 = go i refl
      where
        go : (n : ℕ) → i ≡ n → stamp_moves b.stamp b.ct (last_ct b.ooob) x.stamp ≡ true
        go zero e = rw (says i).stamp (h.leads e).stamps
        go (suc j) e =
            rw (h.one j e, (says i).stamp, (says j).stamp, (says j).ct, last_of_row (suc k) s c j)
            (stamp_stays (suc k) j (last_of c) (suc-ne-zero k) (λ z. absurd (omega arith)))

    met4 : k4 b x ≡ true
    unfolding k4
    met4 = go i refl
      where
        go : (n : ℕ) → i ≡ n → ct_moves b.stamp b.ct x.stamp x.ct ≡ true
        go zero e = rw ((says i).stamp, (says i).ct, e) (h.leads e).cts
        go (suc j) e = rw (h.one j e, (says i).stamp, (says i).ct, (says j).stamp, (says j).ct, e) (ct_next (suc k) j (suc-ne-zero k))

    -- nothing is asked of it as an empty row
    not_empty : (t : Bool) → implies (eqb x.stamp 0) t ≡ true
    not_empty t = if_equal_met x.stamp 0 t (λ e. absurd (suc-ne-zero k (sym (says i).stamp ∙ e)))

    -- if it is not the first of its cycle, it is as the one before
    as_before : x.ct ≢ 0 → (x.ooob ≡ b.ooob) × (kept x ≡ kept b)
    as_before z = go i refl
      where
        go : (n : ℕ) → i ≡ n → (x.ooob ≡ b.ooob) × (kept x ≡ kept b)
        go zero e = absurd (z ((says i).ct ∙ e))
        go (suc j) e = rw (h.one j e) ((says i).ooob ∙ sym (says j).ooob, rows_keep i j)

    met5 : k5 b x ≡ true
    unfolding k5
    met5 = not_empty _ & if_unequal_met x.ct 0 _ (λ z. eq-eqb x.ooob b.ooob (as_before z).0)

    met6 : k6 x ≡ true
    unfolding k6
    met6 = not_empty _

    met7 : k7 x ≡ true
    unfolding k7
    met7 = ap not (ne_eqb x.cn 0 (λ e. absurd (omega (arith, ap (λ (y : Context). y.cn) (says i).context, valid.some))))

    met8 : k8 b x ≡ true
    unfolding k8
    met8 = if_unequal_met x.ct 0 _ (λ z. rw (as_before z).1 (equal_self (kept b)))

    met9 : k9 q x ≡ true
    unfolding k9
    met9 = if_equal_met x.ct 0 _ (λ e.
        rw (h.state (sym (says i).ct ∙ e)) (eq-eqb x.mem s.mem (says i).mem & eq-eqb x.cost s.cost (says i).cost))

    met26 : (last : Bool) → (last ≡ true → i ≡ last_of c) → k26 last x ≡ true
    unfolding k26
    met26 last f = implies_met (last && in_use x) _ (λ e.
        eq-eqb x.ct (last_ct x.ooob) ((says i).ct ∙ f (both last (in_use x) e).0 ∙ sym (last_of_row (suc k) s c i)))

    -- ---- all of them, as the row is looked at

    module _ (last : Bool) (f : last ≡ true → i ≡ last_of c) where
      abbrev seen : View
      seen = record { two = a; one = b; this = x; state = q; first = false; last = last }

      -- 11 to 23 where OOOB=0, 24 and 25 where OOOB=1
      meets_by : k10 b x ≡ true → (x.ooob ≡ 0 → Within a b x) → (x.ooob ≡ 1 → Beyond x) → Passes seen
      unfolding k2
      meets_by t10 w y =
          met1 & refl & met3 & met4 & met5 & met6
          & used_met x (k7 x) met7 & used_met x (k8 b x) met8 & used_met x (k9 q x) met9 & used_met x (k10 b x) t10
          & within_met x (k11 b x) (λ z. (w z).t11) & within_met x (k12 b x) (λ z. (w z).t12) & within_met x (k13 b x) (λ z. (w z).t13)
          & within_met x (k14 b x) (λ z. (w z).t14) & within_met x (k15 x) (λ z. (w z).t15) & within_met x (k16 x) (λ z. (w z).t16)
          & within_met x (k17 x) (λ z. (w z).t17) & within_met x (k18 x) (λ z. (w z).t18) & within_met x (k19 x) (λ z. (w z).t19)
          & within_met x (k20 x) (λ z. (w z).t20) & within_met x (k21 b x) (λ z. (w z).t21) & within_met x (k22 a b x) (λ z. (w z).t22)
          & within_met x (k23 x) (λ z. (w z).t23)
          & beyond_met x (k24 x) (λ z. (y z).t24) & beyond_met x (k25 x) (λ z. (y z).t25)
          & met26 last f & refl

      ooob_by : (t : Bool) → in_bounds c ≡ t → x.ooob ≡ bit (not t)
      ooob_by t e = (says i).ooob ∙ ap (λ (u : Bool). bit (not u)) e

      meets_in : in_bounds c ≡ true → Passes seen
      unfolding last_of
      meets_in e =
          let m : i ≤ in_last = rw e at l in
          let one : (j : ℕ) → i ≡ suc j → b ≡ inside j = λ j z. h.one j z ∙ row_in e j in
          let two : (j : ℕ) → i ≡ suc (suc j) → a ≡ inside j = λ j z. h.two j z ∙ row_in e j in
          meets_by (rw (row_in e i) (in10 (suc k) s c sound e i m a b one two))
          (λ z. rw (row_in e i) (in_row_meets (suc k) s c sound e i m a b one two)) (λ z. absurd (omega (arith, ooob_by true e)))

      meets_out : in_bounds c ≡ false → Passes seen
      unfolding last_of
      meets_out e =
          let m : i ≤ out_last = rw e at l in
          let one : (j : ℕ) → i ≡ suc j → b ≡ outside j = λ j z. h.one j z ∙ row_out e j in
          meets_by (rw (row_out e i) (out10 (suc k) s c valid e i m b one))
          (λ z. absurd (omega (arith, ooob_by false e))) (λ z. rw (row_out e i) (out_row_meets (suc k) s c valid e i m))

      -- row i of the cycle meets all constraints
      pub row_meets : Passes seen
      row_meets = go (in_bounds c) refl
        where
          go : (t : Bool) → in_bounds c ≡ t → Passes seen
          go true e = meets_in e
          go false e = meets_out e
