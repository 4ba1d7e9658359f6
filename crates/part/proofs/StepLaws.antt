-- What a step gives and where it goes, by how many rows remain; and the bytes of rows.
use Prim.Native.Nat.{ℕ, ◌+◌, ◌*◌, ◌-◌, ◌/◌, ◌≤◌, ◌<◌, max}
use mathlib.Core.Bool.{Bool, true, false}
use mathlib.Core.List.{List, []}
use mathlib.Core.Path.{◌≡◌, refl}
use native.Mathlib.Omega.{arith}
use borrow.Author.Tests.{le-leb, lt-leb, leb-true}
use lib.Dec.{leb}
use lib.ListN.{length, take, drop}
use Rattle.model.specs.Columns.{row_bytes, row_at}
use Rattle.model.specs.Cycles.{cycle_rows, part, Stepped, step}
use Rattle.model.specs.Tests.{pick}

-- ---- a step

module _ (l : List ℕ) (i : ℕ) where
  -- the rows of the cycle of row i, and the whole rows of the bytes
  abbrev rows : ℕ
  rows = cycle_rows (row_at l i)

  abbrev whole : ℕ
  whole = length l / row_bytes

  abbrev moves : Stepped
  moves = record { part = part l i rows; next = i + rows }

  abbrev stays : Stepped
  stays = record { part = []; next = i }

  -- so many rows remain
  pub step_moves : i + rows ≤ whole → (step l i).next ≡ i + rows
  unfolding step
  step_moves h = rw (le-leb _ whole h)

  -- they don't
  pub step_stays : whole < i + rows → (step l i).next ≡ i
  unfolding step
  step_stays h = rw (lt-leb _ whole h)

  -- a step does not leave the trace
  pub step_inside : (step l i).next ≤ max i whole
  unfolding step
  step_inside = by (leb (i + rows) whole) refl
    where
      by : (b : Bool) → leb (i + rows) whole ≡ b → (pick b moves stays).next ≤ max i whole
      by true e = omega (arith, leb-true (i + rows) whole e)
      by false e = omega arith

  -- it gives the rows that it moves past
  pub step_part : (n : ℕ) → i + n ≡ (step l i).next → (step l i).part ≡ part l i n
  unfolding step part
  step_part n = by (leb (i + rows) whole)
    where
      by : (b : Bool) → i + n ≡ (pick b moves stays).next → (pick b moves stays).part ≡ part l i n
      by true e = let same : rows ≡ n = omega arith in rw same
      by false e = let none : 0 ≡ n = omega arith in rw (← none)

  -- it does not go back
  pub step_forward : i ≤ (step l i).next
  unfolding step
  step_forward = by (leb (i + rows) whole)
    where
      by : (b : Bool) → i ≤ (pick b moves stays).next
      by true = omega arith
      by false = omega arith

-- ---- the bytes of rows

-- n rows from row i on, by their first byte and the byte after them
pub part_between : (l : List ℕ) (i n : ℕ) → take (i * row_bytes + n * row_bytes - i * row_bytes) (drop (i * row_bytes) l) ≡ part l i n
unfolding part
part_between l i n =
    let bytes : i * row_bytes + n * row_bytes - i * row_bytes ≡ n * row_bytes = omega arith in
    rw bytes
