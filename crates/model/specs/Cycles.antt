-- What is read off a trace: its cycles, its claims and counts, the rows of an instruction, the last state of a context, a walker's step.
use Rattle.std.specs.Prelude.{ℕ, zero, suc, ◌+◌, ◌*◌, ◌/◌, Bool, not, ◌&&◌, List, [], ◌∷◌, map, reverse, eqb, leb, length, get_or, take, drop}
use Rattle.model.specs.Columns.{Cells, empty_row, row_bytes, row_at, rows_of}
use Rattle.model.specs.Constraints.{last_ct, in_use}
use Rattle.model.specs.State.{Context, State, same_context, context_of, state_of, start}
use Rattle.model.specs.Tests.{pick}

-- A cycle is the rows of one instruction: the number of its first row, and that row
pub record Cycle : Type 0 where
  pub first : ℕ
  pub row : Cells

-- how many rows the cycle of a row has: 3, 17 if its OOOB is 1
abbrev pub cycle_rows : Cells → ℕ
cycle_rows x = suc (last_ct x.ooob)

-- how many rows a cycle has
abbrev pub rows_in : Cycle → ℕ
rows_in c = cycle_rows c.row

-- a row with which a cycle starts
unfoldable pub starts : Cells → Bool
starts x = in_use x && eqb x.ct 0

-- the cycles of rows, of which the first has the number i
unfoldable pub cycles_from : ℕ → List Cells → List Cycle
cycles_from i [] = []
cycles_from i (x ∷ xs) = pick (starts x) (record { first = i; row = x } ∷ cycles_from (suc i) xs) (cycles_from (suc i) xs)

-- the cycles of a trace
abbrev pub cycles : List Cells → List Cycle
cycles rows = cycles_from 0 rows

-- A claim is a context number CN and two ends.
pub record Claim : Type 0 where
  pub context : Context
  pub end1 : ℕ
  pub end2 : ℕ

-- the claim that a row shows
abbrev pub claim_of : Cells → Claim
claim_of x = record { context = context_of x; end1 = x.end1; end2 = x.end2 }

-- the claims of a trace
abbrev pub claims : List Cells → List Claim
claims rows = map (λ (c : Cycle). claim_of c.row) (cycles rows)

-- how many entries pass the test
unfoldable pub count : {A : Type 0} → (A → Bool) → List A → ℕ
count f [] = 0
count f (x ∷ xs) = pick (f x) (suc (count f xs)) (count f xs)

-- counts of instructions, out-of-bounds ones and empty rows
pub record Counts : Type 0 where
  pub instructions : ℕ
  pub oob : ℕ
  pub empty : ℕ

-- an out-of-bounds instruction is one whose OOOB is 1; an empty row, one whose STAMP is 0
abbrev pub is_oob : Cycle → Bool
is_oob c = eqb c.row.ooob 1

unfoldable pub empty_rows : List Cells → ℕ
empty_rows rows = count (λ x. not (in_use x)) rows

unfoldable pub counts : List Cells → Counts
counts rows = record { instructions = length (cycles rows); oob = count is_oob (cycles rows); empty = empty_rows rows }

-- what stands for a cycle where there is none
abbrev pub no_cycle : Cycle
no_cycle = record { first = 0; row = empty_row }

-- the cycle of instruction k (from 1)
unfoldable pub instruction : List Cells → ℕ → Cycle
instruction rows zero = no_cycle
instruction rows (suc k) = get_or (cycles rows) k no_cycle

-- n rows of a byte string from row i on
unfoldable pub part : List ℕ → (i n : ℕ) → List ℕ
part l i n = take (n * row_bytes) (drop (i * row_bytes) l)

-- whether there is an instruction k
unfoldable pub is_instruction : List Cells → ℕ → Bool
is_instruction rows k = leb 1 k && leb k (length (cycles rows))

-- the rows of instruction k (from 1) as a part of the trace itself, empty if there is none; and its claim
unfoldable pub instruction_part : List ℕ → ℕ → List ℕ
instruction_part l k =
    let c : Cycle = instruction (rows_of l) k in
    pick (is_instruction (rows_of l) k) (part l c.first (rows_in c)) []

unfoldable pub instruction_claim : List ℕ → ℕ → Claim
instruction_claim l k = claim_of (instruction (rows_of l) k).row

-- an answer to the last-state question: the state, and how many cycles were looked at
pub record Looked : Type 0 where
  pub state : State
  pub cycles : ℕ

-- through cycles in the order given, up to the first with that context: the found one's place (from 1), or all cycles if none (then state 0, 0)
unfoldable pub look : Context → List Cycle → Looked
look x [] = record { state = start; cycles = 0 }
look x (c ∷ cs) =
    let rest : Looked = look x cs in
    pick (same_context (context_of c.row) x) (record { state = state_of c.row; cycles = 1 })
    (record { state = rest.state; cycles = suc rest.cycles })

-- from the last cycle back
unfoldable pub last_state : List Cells → Context → Looked
last_state rows x = look x (reverse (cycles rows))

-- a walker's next row after k instructions: at first the row after the empty ones
unfoldable pub next_row : List Cells → ℕ → ℕ
next_row rows zero = empty_rows rows
next_row rows (suc k) =
    let c : Cycle = instruction rows (suc k) in
    c.first + rows_in c

-- what a walker's step gives: a part of the trace, and the next row
pub record Stepped : Type 0 where
  pub part : List ℕ
  pub next : ℕ

-- A step on any walker gives 3 rows from the next row, 17 if that row's OOOB is 1, and moves past them; if so many whole rows don't remain, an
-- empty part and no move.
unfoldable pub step : List ℕ → ℕ → Stepped
step l i =
    let n : ℕ = cycle_rows (row_at l i) in
    pick (leb (i + n) (length l / row_bytes)) (record { part = part l i n; next = i + n }) (record { part = []; next = i })
