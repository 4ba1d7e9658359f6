-- Rows with the same cells are equal, and a cycle that stands in rows is those rows.
use Prim.Native.Nat.{ℕ, zero, suc, ◌+◌, ◌≤◌, ◌<◌}
use mathlib.Core.Bool.{Bool, true, false, ◌&&◌, and_assoc, and-false}
use mathlib.Core.List.{List, [], ◌∷◌, ◌++◌}
use mathlib.Core.Path.{◌≡◌, refl, sym, ap}
use native.Mathlib.Decide.{ℕ_discrete}
use native.Mathlib.Numerals.{add-one}
use native.Mathlib.Omega.{arith}
use lib.Dec.{eqb}
use Rattle.number.proofs.TestLaws.{both, both_intro}
use Rattle.model.specs.Columns.{Cells, Column, up_to_gas, from_comp, columns, cells_in, of_list}
use Rattle.model.specs.Constraints.{in_last, out_last, equal}
use Rattle.model.specs.Cycles.{Claim}
use Rattle.model.specs.State.{State}
use Rattle.model.specs.Tests.{pick}
use Rattle.model.specs.Trace.{in_bounds, top, is_at_least, is_grown, in_row, out_row, last_of, row_of}
use Rattle.model.proofs.TestFacts.{equal_are, equal_self}
use Rattle.compare.specs.Same.{same_in, same_cells, rows_stand, cycle_stands}

-- ---- rows

-- rows with the same cells are equal, and the other way round
pub same_cells_lem : (x y : Cells) → same_cells x y ≡ true → x ≡ y
unfolding same_in
same_cells_lem x y h = ap of_list (equal_are (cells_in columns x) (cells_in columns y) h)

pub cells_same : (x y : Cells) → x ≡ y → same_cells x y ≡ true
unfolding same_in
cells_same x y e = rw e (equal_self (cells_in columns y))

-- the same in some columns, and in those after them
pub same_append : (cs ds : List Column) (x y : Cells) → same_in (cs ++ ds) x y ≡ (same_in cs x y && same_in ds x y)
unfolding same_in equal
same_append [] ds x y = refl
same_append (c ∷ cs) ds x y = rw (same_append cs ds x y) (sym (and_assoc (eqb (c.cell x) (c.cell y)) (same_in cs x y) (same_in ds x y)))

-- a row is compared in two parts
pub row_same : (x y : Cells) → (same_in up_to_gas x y && same_in from_comp x y) ≡ same_cells x y
row_same x y = sym (same_append up_to_gas from_comp x y)

-- ---- rows one after the other

module _ (r : ℕ → Cells) (i : ℕ) (f : ℕ → Cells) where
  -- rows that stand are those rows
  pub each_stands : (n : ℕ) → rows_stand r i f n ≡ true → (j : ℕ) → j < n → r (i + j) ≡ f j
  unfolding rows_stand
  each_stands zero h j l = absurd (omega arith)
  each_stands (suc n) h j l =
      let (before, last) = both (rows_stand r i f n) (same_cells (r (i + n)) (f n)) h in
      by (each_stands n before) last (ℕ_discrete j n)
    where
      by : ((j : ℕ) → j < n → r (i + j) ≡ f j) → same_cells (r (i + n)) (f n) ≡ true → Dec (j ≡ n) → r (i + j) ≡ f j
      by before last (yes e) = rw e (same_cells_lem (r (i + n)) (f n) last)
      by before last (no e) = before j (omega arith)

  -- and rows that are those stand
  pub all_stand : (n : ℕ) → ((j : ℕ) → j < n → r (i + j) ≡ f j) → rows_stand r i f n ≡ true
  unfolding rows_stand
  all_stand zero h = refl
  all_stand (suc n) h =
      both_intro (rows_stand r i f n) (same_cells (r (i + n)) (f n)) (all_stand n (λ j l. h j (omega arith))) (cells_same (r (i + n)) (f n) (h n (omega arith)))

  -- none, and one more
  pub none_stand : rows_stand r i f 0 ≡ true
  unfolding rows_stand
  none_stand = refl

  pub one_more : (n : ℕ) → rows_stand r i f n ≡ true → same_cells (r (i + n)) (f n) ≡ true → rows_stand r i f (n + 1) ≡ true
  unfolding rows_stand
  one_more n h e = rw (add-one n) (both_intro (rows_stand r i f n) (same_cells (r (i + n)) (f n)) h e)

  -- where one of them is another row, they do not stand
  pub one_other : (n j : ℕ) → j < n → same_cells (r (i + j)) (f j) ≡ false → rows_stand r i f n ≡ false
  unfolding rows_stand
  one_other zero j l h = absurd (omega arith)
  one_other (suc n) j l h = by (one_other n j) (ℕ_discrete j n)
    where
      by : (j < n → same_cells (r (i + j)) (f j) ≡ false → rows_stand r i f n ≡ false) → Dec (j ≡ n)
          → (rows_stand r i f n && same_cells (r (i + n)) (f n)) ≡ false
      by before (yes e) = rw (← e, h) (and-false (rows_stand r i f j))
      by before (no e) = rw (before (omega arith) h)

-- ---- a cycle

-- row j of the cycle of a claim, by whether the claim is in bounds
abbrev pub row_by : (stamp : ℕ) → State → Claim → Bool → ℕ → Cells
row_by stamp s c b j = pick b (in_row (is_at_least c) (is_grown s (top c)) stamp s c j) (out_row stamp s c j)

module _ (r : ℕ → Cells) (i stamp : ℕ) (s : State) (c : Claim) where
  -- the cycle stands where its in-bounds rows or its out-of-bounds rows do, by the same
  pub stands_by : (b : Bool) → in_bounds c ≡ b → rows_stand r i (row_by stamp s c b) (suc (pick b in_last out_last)) ≡ cycle_stands r i stamp s c
  unfolding cycle_stands last_of row_of
  stands_by b e = ap (λ (t : Bool). rows_stand r i (row_by stamp s c t) (suc (pick t in_last out_last))) (sym e)

  -- a cycle that stands is those rows, and the other way round
  pub cycle_stands_lem : cycle_stands r i stamp s c ≡ true → (j : ℕ) → j ≤ last_of c → r (i + j) ≡ row_of stamp s c j
  unfolding cycle_stands
  cycle_stands_lem h j l = each_stands r i (row_of stamp s c) (suc (last_of c)) h j (omega arith)

  pub stands_cycle : ((j : ℕ) → j ≤ last_of c → r (i + j) ≡ row_of stamp s c j) → cycle_stands r i stamp s c ≡ true
  unfolding cycle_stands
  stands_cycle h = all_stand r i (row_of stamp s c) (suc (last_of c)) (λ j l. h j (omega arith))
