-- What each exported call writes for what it is given: the numbers of its answer, laid out in its array.
use Rattle.std.specs.Prelude.{ℕ, List}
use Rattle.model.specs.Cycles.{step}
use Rattle.model.specs.State.{Context}
use Rattle.model.specs.Verdict.{verdict}
use Rattle.filler.specs.Answer as filler
use Rattle.filler.specs.Fill.{outcome}
use Rattle.checker.specs.Answer.{numbers, told}
use Rattle.trace.specs.Asked.{where_is, claim_in}
use Rattle.trace.specs.Told.{part_numbers, told_place, claim_numbers, told_claimed}
use Rattle.last.specs.Last.{last_of, last_numbers, told_last}
use Rattle.walker.specs.Walk.{start_of, start_numbers, told_start, step_numbers}
use Rattle.out.specs.Out.{check_list, fill_list, rows_list, claim_list, last_list, open_list, step_list}

-- what `mxp_check` writes for these bytes
abbrev pub check_out : List ℕ → List ℕ
check_out l = check_list (numbers (told (verdict l)))

-- what `mxp_fill` writes for this list, so many empty rows and a buffer of so many bytes
abbrev pub fill_out : (list : List ℕ) → (empty room : ℕ) → List ℕ
fill_out list empty room = fill_list (filler.numbers (filler.told (outcome list empty room)))

-- what `mxp_rows` writes for these bytes and instruction k
abbrev pub rows_out : List ℕ → (k : ℕ) → List ℕ
rows_out l k = rows_list (part_numbers (told_place (where_is l k)))

-- what `mxp_claim` writes for these bytes and instruction k
abbrev pub claim_out : List ℕ → (k : ℕ) → List ℕ
claim_out l k = claim_list (claim_numbers (told_claimed (claim_in (where_is l k))))

-- what `mxp_last_state` writes for these bytes, a context and a limit
abbrev pub last_out : List ℕ → Context → (limit : ℕ) → List ℕ
last_out l x limit = last_list (last_numbers (told_last (last_of l x limit)))

-- what `mxp_open` writes for these bytes
abbrev pub open_out : List ℕ → List ℕ
open_out l = open_list (start_numbers (told_start (start_of l)))

-- what `mxp_step` writes for these bytes and a next row
abbrev pub step_out : List ℕ → (next : ℕ) → List ℕ
step_out l next = step_list (step_numbers next (step l next))
