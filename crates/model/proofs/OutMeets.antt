-- The rows of an out-of-bounds claim meet constraints 10, 24 and 25.
use Prim.Native.Nat.{ℕ, suc, ◌-◌, ◌≤◌}
use mathlib.Core.Bool.{true, false}
use mathlib.Core.Path.{◌≡◌, refl, ap}
use native.Mathlib.Omega.{arith}
use borrow.Author.Tests.{ltb-false, lt-ltb, leb-true, leb-false}
use lib.Dec.{leb}
use Rattle.number.specs.Whole.{bound}
use Rattle.number.proofs.SumLaws.{prefix_last}
use Rattle.model.specs.Columns.{Cells}
use Rattle.model.specs.Constraints.{out_last, stays, k10, k24, k25}
use Rattle.model.specs.Cycles.{Claim}
use Rattle.model.specs.Promises.{ValidClaim}
use Rattle.model.specs.State.{State}
use Rattle.model.specs.Trace.{in_bounds, beyond_end, out_row}
use Rattle.model.proofs.FitLaws.{beyond-lt}
use Rattle.model.proofs.RowTests.{Beyond, sums_met}
use Rattle.model.proofs.TestFacts.{if_equal_met, ◌&◌, eqb_self, pick_has, difference_met}

-- the end that is taken is at least the bound
beyond-le : (c : Claim) → in_bounds c ≡ false → bound ≤ beyond_end c
unfolding in_bounds beyond_end
beyond-le c h =
    pick_has (λ n. bound ≤ n) (leb bound c.end1) (leb-true bound c.end1)
    (λ e. ltb-false c.end2 bound (rw (lt-ltb c.end1 bound (leb-false bound c.end1 e)) at h))

module _ (stamp : ℕ) (s : State) (c : Claim) (valid : ValidClaim c) (outside : in_bounds c ≡ false) (i : ℕ) (l : i ≤ out_last) where
  abbrev row : ℕ → Cells
  row j = out_row stamp s c j

  -- BYTE1 of row i sums up into ACC1, after the row b of its cycle
  pub out10 : (b : Cells) → ((j : ℕ) → i ≡ suc j → b ≡ row j) → k10 b (row i) ≡ true
  unfolding k10 out_row
  out10 b one = sums_met out_last (beyond_end c - bound) (beyond-lt c valid) i b.acc1 l (λ j e. ap (λ (x : Cells). x.acc1) (one j e))

  out24 : k24 (row i) ≡ true
  unfolding k24 stays out_row
  out24 = ((((eqb_self s.mem & eqb_self s.cost) & refl) & refl) & refl) & refl

  out25 : k25 (row i) ≡ true
  unfolding k25 out_row beyond_end
  out25 = if_equal_met i out_last _ (λ e. rw (e, prefix_last)
      (difference_met (beyond_end c - bound) (beyond_end c) bound (omega (arith, beyond-le c outside))))

  -- and it meets 24 and 25
  pub out_row_meets : Beyond (row i)
  out_row_meets = record { t24 = out24; t25 = out25 }
