-- The numbers that are told of a step, by the row where it goes.
use Prim.Native.Nat.{ℕ, ◌+◌, ◌*◌, ◌-◌, ◌≤◌}
use mathlib.Core.Bool.{false}
use mathlib.Core.List.{List}
use mathlib.Core.Path.{◌≡◌}
use native.Mathlib.Omega.{arith}
use borrow.Author.Tests.{ne_eqb}
use lib.Dec.{eqb}
use lib.ListN.{length, length-take, length-drop}
use Rattle.model.specs.Columns.{row_bytes}
use Rattle.model.specs.Cycles.{part, step}
use Rattle.part.proofs.StepLaws.{step_inside, step_part, step_forward}
use Rattle.walker.specs.Walk.{step_numbers}

module _ (l : List ℕ) (i : ℕ) where
  -- so many rows are so many bytes
  length_part : (n : ℕ) → i * row_bytes + n * row_bytes ≤ length l → length (part l i n) ≡ n * row_bytes
  unfolding part
  length_part n h = rw (length-take, length-drop) (omega (arith, h))

  -- ---- by the row m where it goes
  module _ (m : ℕ) (goes : m ≡ (step l i).next) where
    between : (step l i).part ≡ part l i (m - i)
    between = step_part l i (m - i) (omega (arith, goes, step_forward l i))

    -- a step that does not move gives nothing
    pub numbers_stay : m ≡ i → step_numbers i (step l i) ≡ record { from = 0; bytes = 0; next = i }
    unfolding part
    numbers_stay e =
        let none : m - i ≡ 0 = omega arith in
        rw (between, ← goes, none, e)

    module _ (on : m ≡ i → ⊥) where
      -- where a step goes on, the rows are there
      pub moved_inside : m * row_bytes ≤ length l
      moved_inside = omega (arith, goes, step_inside l i, step_forward l i, on)

      -- and it gives them all
      pub numbers_move : step_numbers i (step l i) ≡ record { from = i * row_bytes; bytes = (m - i) * row_bytes; next = m }
      numbers_move =
          let long : length (step l i).part ≡ (m - i) * row_bytes =
          rw between (length_part (m - i) (omega (arith, moved_inside, goes, step_forward l i))) in
          let some : eqb ((m - i) * row_bytes) 0 ≡ false =
          ne_eqb ((m - i) * row_bytes) 0 (λ (e : (m - i) * row_bytes ≡ 0). absurd (omega (arith, e, goes, step_forward l i, on))) in
          rw (long, some, ← goes)
