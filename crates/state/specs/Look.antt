-- The look-up of a context's state before a row: back cycle by cycle over any rows, with a limit on the cycles that are looked at.
use Rattle.std.specs.Prelude.{ℕ, zero, suc, ◌+◌, ◌-◌, ◌*◌, ◌≤◌, leb, Option, None, Some}
use Rattle.model.specs.Columns.{Cells, row_bytes}
use Rattle.model.specs.Cycles.{Looked, cycle_rows}
use Rattle.model.specs.State.{Context, State, same_context, context_of, state_of, start}
use Rattle.model.specs.Tests.{pick}
use Rattle.model.specs.Verdict.{row_before}
use Rattle.state.specs.declared.look.Search.{Search}

-- row i was found, in the first cycle that was looked at
abbrev pub found_at : ℕ → Search
found_at i = record { found = Some i; count = 1 }

-- k cycles were looked at, and nothing was found
abbrev pub none_in : ℕ → Search
none_in k = record { found = None; count = k }

-- one cycle more was looked at
abbrev pub one_more : Search → Search
one_more s = record { found = s.found; count = suc s.count }

-- From row `to` back over at most `limit` cycles. A cycle is looked at by its last row: each of its rows has the context and the number of rows.
-- The search ends at the first cycle with the context, at the limit, or where fewer rows are left than a whole cycle has.
unfoldable pub search_back : (ℕ → Cells) → Context → (limit to : ℕ) → Search
search_back r x zero to = none_in 0
search_back r x (suc limit) to =
    let last : Cells = row_before r to in
    pick (leb (cycle_rows last) to)
    (pick (same_context (context_of last) x) (found_at (to - 1)) (one_more (search_back r x limit (to - cycle_rows last))))
    (none_in 0)

-- a found row is one of those that stand in so many bytes
abbrev pub found_in : (bytes : ℕ) → Option ℕ → Type 0
found_in bytes (Some i) = (i + 1) * row_bytes ≤ bytes
found_in bytes None = Unit

-- the state that the found row leaves; if there is none, that of a context without an earlier instruction
abbrev pub state_found : (ℕ → Cells) → Option ℕ → State
state_found r (Some i) = state_of (r i)
state_found r None = start

-- what a search answers: the state, and how many cycles were looked at
abbrev pub answered : (ℕ → Cells) → Search → Looked
answered r s = record { state = state_found r s.found; cycles = s.count }

-- the state of the context before row `to`, with a look at no more than `limit` cycles
unfoldable pub look_back : (ℕ → Cells) → Context → (limit to : ℕ) → Looked
look_back r x limit to = answered r (search_back r x limit to)
