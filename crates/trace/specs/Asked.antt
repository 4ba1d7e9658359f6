-- What is asked of a trace, and what is answered on any bytes: what was asked for, or the number of a refusal.
use Rattle.std.specs.Prelude.{ℕ, List, []}
use Rattle.model.specs.Columns.{rows_of}
use Rattle.model.specs.Cycles.{Cycle, rows_in, Claim, claim_of, Counts, counts, instruction, is_instruction, part}
use Rattle.model.specs.Tests.{pick}
use Rattle.model.specs.Verdict as model
use Rattle.model.specs.Verdict.{Verdict, verdict}
use Rattle.refusal.specs.Refusals.{not_accepted, no_instruction}

-- what a call over a trace answers: what was asked for, or the number of a refusal
pub data Answer (A : Type 0) : Type 0 where
  given : A → Answer A
  refused : ℕ → Answer A

-- 9 and 10 are those of the verdict. 11: not accepted. They come before all that an accepted trace is asked.
abbrev pub of_accepted : {A : Type 0} → Verdict → Answer A → Answer A
of_accepted (model.accepted c) a = a
of_accepted (model.broken i k) a = refused not_accepted
of_accepted (model.refused m) a = refused m

-- the counts of an accepted trace
abbrev pub admitted : List ℕ → Answer Counts
admitted l = of_accepted (verdict l) (given (counts (rows_of l)))

-- where instruction k (from 1) stands: its cycle. 12: no instruction k.
unfoldable pub where_is : List ℕ → ℕ → Answer Cycle
where_is l k =
    let c : Cycle = instruction (rows_of l) k in
    of_accepted (verdict l) (pick (is_instruction (rows_of l) k) (given c) (refused no_instruction))

-- the rows of a cycle as a part of the trace itself; on a refusal a returned part is empty
abbrev pub part_of : List ℕ → Answer Cycle → List ℕ
part_of l (given c) = part l c.first (rows_in c)
part_of l (refused n) = []

-- the claim of a cycle
abbrev pub claim_in : Answer Cycle → Answer Claim
claim_in (given c) = given (claim_of c.row)
claim_in (refused n) = refused n
