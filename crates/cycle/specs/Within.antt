-- The rows of an in-bounds cycle as the model has them.
use Rattle.std.specs.Prelude.{ℕ}
use Rattle.model.specs.Columns.{Cells}
use Rattle.model.specs.Trace.{top, in_row, is_at_least, is_grown}
use Rattle.state.specs.Plain.{state}
use Rattle.claim.specs.Told.{plain_claim}
use Rattle.cycle.specs.declared.Cycle.{Cycle}

-- row i of a cycle whose claim is in bounds
abbrev pub within_row : Cycle → (i : ℕ) → Cells
within_row x i =
    in_row (is_at_least (plain_claim x.claim)) (is_grown (state x.before) (top (plain_claim x.claim))) x.stamp (state x.before) (plain_claim x.claim) i
