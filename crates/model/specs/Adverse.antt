-- Adverse traces: small ones, each with the judgement that the constraints of document 01 give it, where a tempting wrong reading of a constraint
-- would judge otherwise.
use Rattle.std.specs.Prelude.{ℕ, zero, suc, ◌+◌, ◌*◌, ◌-◌, ◌<◌, List, [], ◌∷◌, ◌++◌, map, ◌≢◌, ◌≡◌, length, get_or, take, drop, set}
use Rattle.number.specs.Whole.{bound}
use Rattle.model.specs.Columns.{Cells, columns, cells_in, of_list, row_in}
use Rattle.model.specs.Cycles.{Claim, Stepped, step}
use Rattle.model.specs.Promises.{Holds}
use Rattle.model.specs.Trace.{trace}
use Rattle.model.specs.Verdict.{Judgement, meet, break, judged_rows}

-- ---- changes in rows

-- the columns by name
pub data Name : Type 0 where
  STAMP CN OOOB CT END1 END2 BYTE1 BYTE2 ACC1 ACC2 MEM MEMN COST COSTN GAS : Name
  COMP DBYTE DACC ENDMAX FLAG EBYTE EACC Q1 Q1BYTE Q1ACC Q2 Q2BYTE Q2ACC AUX1 AUX2 : Name

-- and their places among the columns, from 0
abbrev place : Name → ℕ
place STAMP = 0
place CN = 1
place OOOB = 2
place CT = 3
place END1 = 4
place END2 = 5
place BYTE1 = 6
place BYTE2 = 7
place ACC1 = 8
place ACC2 = 9
place MEM = 10
place MEMN = 11
place COST = 12
place COSTN = 13
place GAS = 14
place COMP = 15
place DBYTE = 16
place DACC = 17
place ENDMAX = 18
place FLAG = 19
place EBYTE = 20
place EACC = 21
place Q1 = 22
place Q1BYTE = 23
place Q1ACC = 24
place Q2 = 25
place Q2BYTE = 26
place Q2ACC = 27
place AUX1 = 28
place AUX2 = 29

-- what is changed in the rows of a trace
pub data Change : Type 0 where
  -- in the rows from i to j the cell of a column becomes v
  rows : (i j : ℕ) → Name → (v : ℕ) → Change
  -- only the n rows from row i on stay
  part : (i n : ℕ) → Change

-- in row i alone
abbrev row : ℕ → Name → ℕ → Change
row i c v = rows i i c v

-- a row with another number in one column
abbrev write : Name → ℕ → Cells → Cells
write c v x = of_list (set (cells_in columns x) (place c) v)

-- rows with one change
abbrev change : List Cells → Change → List Cells
change xs (rows i j c v) = take i xs ++ (map (write c v) (take (suc j - i) (drop i xs)) ++ drop (suc j) xs)
change xs (part i n) = take n (drop i xs)

-- the changes one after the other
abbrev changed : List Cells → List Change → List Cells
changed xs [] = xs
changed xs (d ∷ ds) = changed (change xs d) ds

-- ---- rows and their judgement

-- the rows break constraint k and no other: without it they would pass
pub record BreaksOnly (k : ℕ) (xs : List Cells) : Type 0 where
  pub row : ℕ
  pub breaks : judged_rows xs ≡ break row k
  pub others : (i m : ℕ) → i < length xs → m ≢ k → Holds (row_in xs) (length xs) i m

-- an entry: rows, and the judgement that is said of them
pub record Witness : Type 0 where
  pub shown : List Cells
  pub judgement : Judgement

-- what it says
abbrev pub Says : Witness → Type 0
Says w = judged_rows w.shown ≡ w.judgement

-- ---- the table

-- the trace of claims after one empty row, with changes
abbrev witness : List Claim → List Change → Judgement → Witness
witness cs ds j = record { shown = changed (trace 1 cs) ds; judgement = j }

-- a claim by its three numbers
abbrev claim : (cn end1 end2 : ℕ) → Claim
claim cn end1 end2 = record { context = record { cn = cn }; end1 = end1; end2 = end2 }

-- the claims of the list that document 01 gives to the program `account`
abbrev pub sample : List Claim
sample = claim 1 32 0 ∷ claim 2 1 0 ∷ claim 1 705 0 ∷ claim 1 0 0 ∷ claim 2 0 64 ∷ claim 2 bound 0 ∷ []

-- one or more for each tempting reading, and for each constraint one that breaks it alone
abbrev pub witnesses : List Witness
witnesses =
    witness sample [] meet
    -- 33 bytes are two words
    ∷ witness (claim 1 33 0 ∷ []) [] meet
    -- context 1 goes on from its own state, past context 2 and past an instruction out of bounds
    ∷ witness (claim 1 32 0 ∷ claim 2 64 0 ∷ claim 1 bound 0 ∷ claim 1 0 0 ∷ []) [] meet
    -- OOOB is 2, where 11 to 25 are silent, and GAS is made up
    ∷ witness (claim 1 32 0 ∷ []) (rows 1 3 OOOB 2 ∷ rows 1 3 GAS 7 ∷ []) (break 1 1)
    -- no empty row first
    ∷ witness (claim 1 32 0 ∷ []) (part 1 3 ∷ []) (break 0 2)
    -- STAMP leaves out 2
    ∷ witness (claim 1 32 0 ∷ claim 1 0 0 ∷ []) (rows 4 6 STAMP 3 ∷ []) (break 4 3)
    -- an empty row after a cycle
    ∷ witness (claim 1 0 0 ∷ claim 1 0 0 ∷ []) (part 0 5 ∷ row 4 STAMP 0 ∷ row 4 CN 0 ∷ row 4 COMP 0 ∷ []) (break 4 3)
    -- CT starts again inside a cycle
    ∷ witness (claim 1 0 0 ∷ claim 1 0 0 ∷ []) (part 0 5 ∷ row 4 STAMP 1 ∷ row 2 CT 0 ∷ row 3 CT 1 ∷ row 4 CT 2 ∷ []) (break 2 4)
    -- only the first row of a cycle is in bounds
    ∷ witness (claim 1 bound 0 ∷ []) (row 1 OOOB 0 ∷ []) (break 2 5)
    -- a cell of an empty row is not 0
    ∷ witness [] (row 0 AUX2 1 ∷ []) (break 0 6)
    -- CN is 0
    ∷ witness (claim 0 32 0 ∷ []) [] (break 1 7)
    -- CN changes inside a cycle
    ∷ witness (claim 1 32 0 ∷ []) (row 3 CN 2 ∷ []) (break 3 8)
    -- context 1 goes on from the state of context 2
    ∷ witness (claim 1 32 0 ∷ claim 2 64 0 ∷ claim 1 0 0 ∷ [])
    (rows 7 9 MEM 64 ∷ rows 7 9 MEMN 64 ∷ rows 7 9 COST 6 ∷ rows 7 9 COSTN 6 ∷ row 9 EBYTE 64 ∷ row 9 EACC 64 ∷ []) (break 7 9)
    -- the lowest context does not start at 0
    ∷ witness (claim 1 0 0 ∷ []) (rows 1 3 COST 3 ∷ rows 1 3 COSTN 3 ∷ []) (break 1 9)
    -- BYTE1 does not sum up, out of bounds; then BYTE2, DBYTE, EBYTE and Q2BYTE
    ∷ witness (claim 1 (bound + 1) 0 ∷ []) (row 17 BYTE1 0 ∷ []) (break 17 10)
    ∷ witness (claim 1 0 32 ∷ []) (row 3 BYTE2 0 ∷ []) (break 3 11)
    ∷ witness (claim 1 32 0 ∷ []) (row 3 DBYTE 0 ∷ []) (break 3 12)
    ∷ witness (claim 1 32 0 ∷ []) (row 3 EBYTE 0 ∷ []) (break 3 13)
    ∷ witness (claim 1 705 0 ∷ []) (row 3 Q2BYTE 0 ∷ []) (break 3 14)
    -- FLAG is 2, where 17 is silent, and GAS is made up
    ∷ witness (claim 1 0 0 ∷ []) (rows 1 3 FLAG 2 ∷ rows 1 3 GAS 7 ∷ []) (break 1 15)
    -- ENDMAX is the lesser end, and nothing is paid
    ∷ witness (claim 1 0 0 ∷ [])
    (rows 1 3 END2 32 ∷ row 3 BYTE2 32 ∷ row 3 ACC2 32 ∷ rows 1 3 COMP 0 ∷ row 3 DBYTE 31 ∷ row 3 DACC 31 ∷ []) (break 1 16)
    -- an end beyond 2^24 is shown in bounds, by its last three bytes
    ∷ witness (claim 1 32 0 ∷ []) (rows 1 3 END1 (bound + 32) ∷ []) (break 1 16)
    -- GAS where FLAG=0
    ∷ witness (claim 1 32 0 ∷ claim 1 0 0 ∷ []) (rows 4 6 GAS 1 ∷ []) (break 4 17)
    -- 33 bytes at the cost of one word
    ∷ witness (claim 1 33 0 ∷ []) (rows 1 3 COSTN 3 ∷ rows 1 3 GAS 3 ∷ []) (break 1 17)
    -- the bytes of END1, the last one first
    ∷ witness (claim 1 1 0 ∷ []) (row 1 BYTE1 1 ∷ row 3 BYTE1 0 ∷ row 1 ACC1 1 ∷ row 2 ACC1 256 ∷ row 3 ACC1 (256 * 256) ∷ []) (break 3 18)
    -- equal ends with COMP=0
    ∷ witness (claim 1 5 5 ∷ []) (rows 1 3 COMP 0 ∷ []) (break 3 19)
    -- the lesser end with COMP=1: the difference is below 0
    ∷ witness (claim 1 0 0 ∷ []) (rows 1 3 END2 32 ∷ row 3 BYTE2 32 ∷ row 3 ACC2 32 ∷ []) (break 3 19)
    -- a first byte for nothing, FLAG=0: the difference is below 0
    ∷ witness (claim 1 0 0 ∷ [])
    (rows 1 3 END1 1 ∷ row 3 BYTE1 1 ∷ row 3 ACC1 1 ∷ row 3 DBYTE 1 ∷ row 3 DACC 1 ∷ rows 1 3 ENDMAX 1 ∷ []) (break 3 20)
    -- an end that was reached before, FLAG=1: the difference is below 0
    ∷ witness (claim 1 32 0 ∷ claim 1 32 0 ∷ []) (rows 4 6 FLAG 1 ∷ row 5 AUX1 255 ∷ row 6 AUX1 31 ∷ row 6 AUX2 1 ∷ []) (break 6 20)
    -- 33 bytes as one word with 32 as the place of its last byte: no byte is 32+224
    ∷ witness (claim 1 33 0 ∷ [])
    (rows 1 3 COSTN 3 ∷ rows 1 3 GAS 3 ∷ rows 1 3 Q1 0 ∷ row 3 Q1BYTE 0 ∷ row 3 Q1ACC 0 ∷ row 2 AUX1 255 ∷ row 3 AUX1 32 ∷ row 3 AUX2 1 ∷ [])
    (break 3 21)
    -- 23*23 as 512*0 + 256*2 + 17, which saves 1 gas
    ∷ witness (claim 1 705 0 ∷ [])
    (rows 1 3 COSTN 69 ∷ rows 1 3 GAS 69 ∷ rows 1 3 Q2 0 ∷ row 3 Q2BYTE 0 ∷ row 3 Q2ACC 0 ∷ row 1 AUX2 2 ∷ []) (break 3 22)
    -- a cell without use is not 0: where FLAG=0, where FLAG=1
    ∷ witness (claim 1 32 0 ∷ claim 1 0 0 ∷ []) (row 4 Q1BYTE 1 ∷ []) (break 4 23)
    ∷ witness (claim 1 32 0 ∷ []) (row 1 AUX1 1 ∷ []) (break 1 23)
    -- a cell without use is not 0, out of bounds
    ∷ witness (claim 1 bound 0 ∷ []) (row 6 DBYTE 1 ∷ []) (break 6 24)
    -- GAS out of bounds
    ∷ witness (claim 1 bound 0 ∷ []) (rows 1 17 GAS 1 ∷ []) (break 1 24)
    -- the state is lost out of bounds
    ∷ witness (claim 1 32 0 ∷ claim 1 bound 0 ∷ []) (rows 4 20 MEMN 0 ∷ rows 4 20 COSTN 0 ∷ []) (break 4 24)
    -- both ends out of bounds, and the second is shown
    ∷ witness (claim 1 bound (bound + 1) ∷ []) (row 17 BYTE1 1 ∷ row 17 ACC1 1 ∷ []) (break 17 25)
    -- an instruction in bounds is shown out of bounds: the difference is below 0
    ∷ witness (claim 1 bound 0 ∷ []) (rows 1 17 END1 32 ∷ []) (break 17 25)
    -- the last cycle is cut: before its E, or at CT=2 where E is 16
    ∷ witness (claim 1 32 0 ∷ []) (part 0 3 ∷ []) (break 2 26)
    ∷ witness (claim 1 bound 0 ∷ []) (part 0 4 ∷ []) (break 3 26)
    ∷ []

-- what stands for an entry where there is none
abbrev pub no_entry : Witness
no_entry = witness [] [] meet

-- entry k, from 0
abbrev pub entry : ℕ → Witness
entry k = get_or witnesses k no_entry

-- a walker's next rows, step after step
abbrev pub next_rows : (steps : ℕ) → List ℕ → ℕ → List ℕ
next_rows zero l i = []
next_rows (suc k) l i =
    let s : Stepped = step l i in
    s.next ∷ next_rows k l s.next
