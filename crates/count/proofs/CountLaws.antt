-- The counts of rows, counted row by row.
use Prim.Native.Nat.{ℕ, zero, suc, ◌+◌, ◌≤◌, ◌<◌}
use mathlib.Core.Bool.{Bool, true, false, not, ◌&&◌}
use mathlib.Core.List.{List, [], ◌∷◌, ◌++◌}
use mathlib.Core.Path.{◌≡◌, refl, ◌∙◌, ap}
use native.Mathlib.Numerals.{add-one}
use native.Mathlib.Omega.{arith}
use lib.Dec.{eqb}
use lib.ListN.{length, length-append}
use Rattle.model.specs.Columns.{Cells, table}
use Rattle.model.specs.Constraints.{in_use}
use Rattle.model.specs.Cycles.{Cycle, Counts, starts, cycles_from, count, is_oob, empty_rows, counts}
use Rattle.model.specs.Tests.{pick, bit}
use Rattle.model.specs.Verdict.{max_rows}
use Rattle.model.proofs.ReadBack.{cycles_join, count_join}
use Rattle.model.proofs.TableOf.{table_snoc}
use Rattle.count.specs.Counts.{counted, plain_counts}
use Rattle.count.specs.declared.Counts as code

-- the cycle that a row adds, if it starts one
abbrev added : Bool → Cycle → List Cycle
added t c = pick t (c ∷ []) []

length-added : (t : Bool) (c : Cycle) → length (added t c) ≡ bit t
length-added true c = refl
length-added false c = refl

oob_added : (t : Bool) (c : Cycle) → count is_oob (added t c) ≡ bit (t && is_oob c)
unfolding count
oob_added true c = refl
oob_added false c = refl

empty_one : (y : Cells) → empty_rows (y ∷ []) ≡ bit (not (in_use y))
unfolding empty_rows count
empty_one y = refl

empty_snoc : (xs : List Cells) (y : Cells) → empty_rows (xs ++ (y ∷ [])) ≡ empty_rows xs + bit (not (in_use y))
unfolding empty_rows
empty_snoc xs y = count_join (λ x. not (in_use x)) xs (y ∷ []) ∙ ap (λ (k : ℕ). count (λ x. not (in_use x)) xs + k) (empty_one y)

counts_snoc : (xs : List Cells) (y : Cells) → counts (xs ++ (y ∷ [])) ≡ counted (counts xs) y
unfolding counts cycles_from
counts_snoc xs y =
    let c : Cycle = record { first = 0 + length xs; row = y } in
    rw (cycles_join 0 xs (y ∷ []), length-append, count_join, empty_snoc xs y, length-added (starts y) c, oob_added (starts y) c)

-- no row
pub counts-none : (r : ℕ → Cells) → counts (table 0 r) ≡ record { instructions = 0; oob = 0; empty = 0 }
unfolding counts table cycles_from count empty_rows
counts-none r = refl

-- one row more
pub counts_next : (r : ℕ → Cells) (i : ℕ) → counts (table (suc i) r) ≡ counted (counts (table i r)) (r i)
counts_next r i = ap counts (table_snoc i r) ∙ counts_snoc (table i r) (r i)

bit_le_one : (t : Bool) → bit t ≤ 1
bit_le_one true = omega arith
bit_le_one false = omega arith

-- each count is at most the rows
pub record Below (i : ℕ) (c : Counts) : Type 0 where
  pub instructions : c.instructions ≤ i
  pub oob : c.oob ≤ i
  pub empty : c.empty ≤ i

below_next : (i : ℕ) (c : Counts) (x : Cells) → Below i c → Below (suc i) (counted c x)
below_next i c x b = record {
  instructions = omega (arith, bit_le_one (starts x));
  oob = omega (arith, bit_le_one (starts x && eqb x.ooob 1));
  empty = omega (arith, bit_le_one (not (in_use x)));
}

-- none of the counts of i rows is above i
pub counts-below : (r : ℕ → Cells) (i : ℕ) → Below i (counts (table i r))
counts-below r zero = rw (counts-none r) (record { instructions = omega arith; oob = omega arith; empty = omega arith })
counts-below r (suc i) = rw (counts_next r i) (below_next i (counts (table i r)) (r i) (counts-below r i))

-- each count has room for one more
pub record Room (c : code.Counts) : Type 0 where
  pub instructions : c.instructions < max_rows
  pub oob : c.oob < max_rows
  pub empty : c.empty < max_rows

-- the counts of fewer rows than a trace may have do
pub room : (r : ℕ → Cells) (i : ℕ) (c : code.Counts) → i < max_rows → plain_counts c ≡ counts (table i r) → Room c
room r i c l e =
    let b = rw (← e) at (counts-below r i) in
    record { instructions = omega (arith, b.instructions); oob = omega (arith, b.oob); empty = omega (arith, b.empty) }

-- one row more is counted
pub counted_next : (r : ℕ → Cells) (i : ℕ) (c d : code.Counts) (x : Cells) → plain_counts c ≡ counts (table i r) → x ≡ r i
    → plain_counts d ≡ counted (plain_counts c) x → plain_counts d ≡ counts (table (i + 1) r)
counted_next r i c d x e f g = rw (add-one i, counts_next r i, ← e, ← f) g

-- the counts by a row's cells are those by the row
pub counted_cells : (c d : code.Counts) (y : Cells) (stamp ooob ct : ℕ) → stamp ≡ y.stamp → ooob ≡ y.ooob → ct ≡ y.ct
    → (d.instructions ≡ c.instructions + bit (not (eqb stamp 0) && eqb ct 0))
    × (d.oob ≡ c.oob + bit ((not (eqb stamp 0) && eqb ct 0) && eqb ooob 1))
    × (d.empty ≡ c.empty + bit (not (not (eqb stamp 0))))
    → plain_counts d ≡ counted (plain_counts c) y
unfolding starts in_use
counted_cells c d y stamp ooob ct e f g (a, b, z) = rw (a, b, z, e, f, g)
