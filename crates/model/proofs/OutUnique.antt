-- The rows of an out-of-bounds cycle that meets the constraints are those of its claim.
use Prim.Native.Nat.{ℕ, ◌+◌, ◌-◌, ◌≤◌}
use mathlib.Core.Bool.{Bool, true, false}
use mathlib.Core.Path.{◌≡◌, refl, ◌∙◌}
use native.Mathlib.Omega.{arith}
use lib.Dec.{leb}
use Rattle.number.specs.Whole.{bound}
use Rattle.model.specs.Columns.{Cells, from_comp, cells_in}
use Rattle.model.specs.Constraints.{out_last, beyond, View, k10}
use Rattle.model.specs.Cycles.{Claim, claim_of}
use Rattle.model.specs.Trace.{in_bounds, top, beyond_end, out_row, row_of}
use Rattle.model.proofs.ConstraintFacts.{Carried, says24, says25}
use Rattle.model.proofs.CycleRows.{Rows, state_in, as_last, as_first, narrow_at, met10, pinned}
use Rattle.model.proofs.RowFacts.{of_beyond}
use Rattle.model.proofs.StateLaws.{top_lt}
use Rattle.model.proofs.TestFacts.{pick_has, zeros_at}

beyond_le_top : (c : Claim) → beyond_end c ≤ top c
unfolding beyond_end
beyond_le_top c = pick_has (λ n. n ≤ top c) (leb bound c.end1) (λ e. omega arith) (λ e. omega arith)

-- an end that is at least the bound, by a sum, puts the claim out of bounds
out_by : (c : Claim) (d : ℕ) → d + bound ≡ beyond_end c → in_bounds c ≡ false
out_by c d e = go (in_bounds c) refl
  where
    go : (t : Bool) → in_bounds c ≡ t → t ≡ false
    go true i = absurd (omega (arith, top_lt c i, beyond_le_top c))
    go false i = refl

module _ (v : ℕ → View) (rows : Rows out_last 1 v) where
  abbrev row : ℕ → Cells
  row i = (v i).this

  -- the last row
  abbrev z : Cells
  z = row out_last

  last_in : out_last ≤ out_last
  last_in = omega arith

  -- constraint 24 or 25, at row i
  met : {k : Bool} (i : ℕ) → i ≤ out_last → beyond (row i) k ≡ true → k ≡ true
  met {k} i h e = of_beyond (row i) (rows.used i h) (rows.ooob i h) k e

  carried : (i : ℕ) → i ≤ out_last → Carried (row i)
  carried i h = says24 (row i) (met i h (rows.each i h 23))

  -- how far the end is beyond the bound
  beyond-by : z.acc1 + bound ≡ beyond_end (claim_of z)
  beyond-by = says25 z (met out_last last_in (rows.each out_last last_in 24)) (rows.ct out_last last_in)

  rows_are : (i : ℕ) → i ≤ out_last → row i ≡ out_row (row 0).stamp (state_in z) (claim_of z) i
  unfolding out_row k10
  rows_are i h =
      let same = as_last out_last 1 v rows i h in
      let c : Carried (row i) = carried i h in
      let off = zeros_at (cells_in from_comp (row i)) c.unused in
      let d : z.acc1 ≡ beyond_end (claim_of z) - bound = omega (arith, beyond-by) in
      let one = pinned out_last 1 v rows (λ x. x.byte1) (λ x. x.acc1) (λ i h. (narrow_at out_last 1 v rows i h).byte1)
      (met10 out_last 1 v rows) d i h in
      λ j. record {
        stamp = rows.stamp i h j;
        cn = same 0 j;
        ooob = rows.ooob i h j;
        ct = rows.ct i h j;
        end1 = same 1 j;
        end2 = same 2 j;
        byte1 = one.0 j;
        byte2 = c.byte2 j;
        acc1 = one.1 j;
        acc2 = c.acc2 j;
        mem = same 3 j;
        memn = (c.stayed.memn ∙ same 3) j;
        cost = same 5 j;
        costn = (c.stayed.costn ∙ same 5) j;
        gas = c.stayed.gas j;
        comp = off 0 j;
        dbyte = off 1 j;
        dacc = off 2 j;
        endmax = off 3 j;
        flag = off 4 j;
        ebyte = off 5 j;
        eacc = off 6 j;
        q1 = off 7 j;
        q1byte = off 8 j;
        q1acc = off 9 j;
        q2 = off 10 j;
        q2byte = off 11 j;
        q2acc = off 12 j;
        aux1 = off 13 j;
        aux2 = off 14 j;
      }

  out_of_bounds : in_bounds (claim_of z) ≡ false
  out_of_bounds = out_by (claim_of z) z.acc1 beyond-by

  -- the claim that the first row shows is out of bounds
  pub out_claim : in_bounds (claim_of (row 0)) ≡ false
  out_claim = as_first out_last 1 v rows (λ s c. in_bounds c ≡ false) out_of_bounds

  -- and the rows are those of that claim, at the state before it that the first row shows
  pub out_unique : (i : ℕ) → i ≤ out_last → row i ≡ row_of (row 0).stamp (state_in (row 0)) (claim_of (row 0)) i
  unfolding row_of
  out_unique i h = rw out_claim (as_first out_last 1 v rows (λ s c. row i ≡ out_row (row 0).stamp s c i) (rows_are i h))
