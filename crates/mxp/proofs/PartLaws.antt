-- The parts of a trace that the calls tell: each ends inside the trace, and that of a step is the one between its two rows.
use Prim.Native.Nat.{ℕ, ◌+◌, ◌≤◌}
use mathlib.Core.List.{List}
use mathlib.Core.Path.{◌≡◌, sym, ◌∙◌}
use native.Mathlib.Decide.{ℕ_discrete}
use native.Mathlib.Omega.{arith}
use borrow.Author.Tests.{eq-eqb, ne_eqb}
use lib.ListN.{length}
use Rattle.std.specs.Prelude.{Result, Ok, Err}
use Rattle.number.specs.Num.{AllBytes}
use Rattle.model.specs.Cycles.{step}
use Rattle.part.proofs.StepLaws.{step_forward}
use Rattle.refusal.specs.declared.Refusal.{Refusal}
use Rattle.trace.specs.Asked.{where_is}
use Rattle.trace.specs.Told.{part_numbers, told_place}
use Rattle.trace.specs.declared.place.Place.{Place}
use Rattle.trace.proofs.PlaceLaws.{told_stands}
use Rattle.walker.specs.Walk.{step_numbers}
use Rattle.walker.proofs.NumberLaws.{numbers_stay, numbers_move, moved_inside}
use Rattle.out.specs.Out.{step_between}
use Rattle.out.proofs.OutLaws.{between_stays, between_moves}

-- the part of an instruction ends inside the trace; on a refusal it is 0 and 0
pub part_inside : (l : List ℕ) → AllBytes l → (k : ℕ) (p : Result Place Refusal) → p ≡ told_place (where_is l k)
    → (part_numbers p).from + (part_numbers p).bytes ≤ length l
part_inside l bytes k (Ok p) e = omega (arith, (told_stands l bytes k (sym e)).inside)
part_inside l bytes k (Err r) e = omega arith

module _ (l : List ℕ) (i m : ℕ) (goes : m ≡ (step l i).next) where
  -- the numbers of a step from row i are those of the rows between i and the row m where it goes
  pub step_between_lem : step_between i m ≡ step_numbers i (step l i)
  step_between_lem = by (ℕ_discrete m i)
    where
      by : Dec (m ≡ i) → step_between i m ≡ step_numbers i (step l i)
      by (yes e) = between_stays i m e ∙ sym (numbers_stay l i m goes e)
      by (no on) = between_moves i m on ∙ sym (numbers_move l i m goes on)

  -- and they end inside the trace; of an empty part 0 and 0
  pub between_inside : (step_between i m).from + (step_between i m).bytes ≤ length l
  between_inside = by (ℕ_discrete m i)
    where
      by : Dec (m ≡ i) → (step_between i m).from + (step_between i m).bytes ≤ length l
      by (yes e) = rw (eq-eqb m i e) (omega (arith, e))
      by (no on) = rw (ne_eqb m i on) (omega (arith, goes, step_forward l i, moved_inside l i m goes on))
