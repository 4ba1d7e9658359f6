-- The arrays of numbers that the answers of the stage are laid out in.
use Rattle.std.specs.Prelude.{ℕ, ◌*◌, ◌-◌, List, [], ◌∷◌, ◌++◌, eqb}
use Rattle.number.specs.Whole.{wide}
use Rattle.model.specs.Columns.{row_bytes}
use Rattle.model.specs.Tests.{pick}
use Rattle.filler.specs.Answer as filler
use Rattle.checker.specs.Answer as checker
use Rattle.trace.specs.Told.{PartNumbers, ClaimNumbers}
use Rattle.last.specs.Last.{LastNumbers}
use Rattle.walker.specs.Walk.{StartNumbers, StepNumbers}

-- refused, line, 0, accepted, instructions, oob, empty, row, constraint
abbrev pub check_list : checker.Numbers → List ℕ
check_list x =
    x.refused ∷ x.line ∷ 0 ∷ x.accepted ∷ x.instructions ∷ x.oob ∷ x.empty ∷ x.row ∷ x.constraint ∷ []

-- refused, line, 0, rows
abbrev pub fill_list : filler.Numbers → List ℕ
fill_list x = x.refused ∷ x.line ∷ 0 ∷ x.rows ∷ []

-- ---- questions to a trace

-- an end by its first byte and two halves
abbrev pub end_list : ℕ → List ℕ
end_list e = (wide e).top ∷ (wide e).hi ∷ (wide e).lo ∷ []

-- refused, line, 0, first byte of the part, its length in bytes
abbrev pub rows_list : PartNumbers → List ℕ
rows_list x = x.refused ∷ x.line ∷ 0 ∷ x.from ∷ x.bytes ∷ []

-- refused, line, 0, cn, end 1, end 2
abbrev pub claim_list : ClaimNumbers → List ℕ
claim_list x = x.refused ∷ x.line ∷ 0 ∷ x.cn ∷ (end_list x.end1 ++ end_list x.end2)

-- refused, line, 0, mem, cost, looked
abbrev pub last_list : LastNumbers → List ℕ
last_list x = x.refused ∷ x.line ∷ 0 ∷ x.mem ∷ x.cost ∷ x.looked ∷ []

-- ---- a walk

-- refused, line, 0, next row
abbrev pub open_list : StartNumbers → List ℕ
open_list x = x.refused ∷ x.line ∷ 0 ∷ x.next ∷ []

-- first byte of the part, its length in bytes, next row
abbrev pub step_list : StepNumbers → List ℕ
step_list x = x.from ∷ x.bytes ∷ x.next ∷ []

-- the numbers of a step by the rows where it starts and where it goes: it gives the rows between; of an empty part 0 and 0
abbrev pub step_between : (next after : ℕ) → StepNumbers
step_between next after = record { from = pick (eqb after next) 0 (next * row_bytes); bytes = (after - next) * row_bytes; next = after }
