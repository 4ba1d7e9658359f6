-- The trace of a list of claims after a number of empty rows: the rows of each claim at its stamp and its context's state.
use Rattle.std.specs.Prelude.{ℕ, zero, suc, ◌+◌, ◌-◌, ◌/◌, ◌%◌, ◌^◌, max, Bool, not, ◌&&◌, List, [], ◌∷◌, ◌++◌, ltb, leb, length, replicate}
use Rattle.number.specs.Sums.{prefix_at, digit_at}
use Rattle.number.specs.Whole.{bound}
use Rattle.gas.specs.Gas.{word_bytes, Parts, words, cost, split}
use Rattle.model.specs.Columns.{Cells, empty_row, table, bytes_of}
use Rattle.model.specs.Constraints.{in_last, out_last, aux_lift}
use Rattle.model.specs.Cycles.{Claim, Counts}
use Rattle.model.specs.State.{Context, State, fresh, put}
use Rattle.model.specs.Tests.{pick, bit}

-- In bounds: both ends below 2^24.
unfoldable pub in_bounds : Claim → Bool
in_bounds c = ltb c.end1 bound && ltb c.end2 bound

-- the last CT of the claim's cycle
unfoldable pub last_of : Claim → ℕ
last_of c = pick (in_bounds c) in_last out_last

-- the counts with the cycle of one claim more
abbrev pub with_cycle : Counts → Claim → Counts
with_cycle s c = record { instructions = s.instructions + 1; oob = s.oob + bit (not (in_bounds c)); empty = s.empty }

-- the greater end
abbrev pub top : Claim → ℕ
top c = max c.end1 c.end2

-- ---- the numbers of an in-bounds cycle, by the two answers of its comparisons

-- how far the ends a and b are apart, where a is at least b, and else one less
unfoldable pub apart : (at_least : Bool) → (a b : ℕ) → ℕ
apart at_least a b = pick at_least (a - b) (b - a - 1)

-- how far the greater end t is above the bytes m reached before, one less, where it is; else how far it is below
unfoldable pub above : (grown : Bool) → (t m : ℕ) → ℕ
above grown t m = pick grown (t - m - 1) (m - t)

-- the last word that the greater end t reaches, counted from 0, and the place of its last byte in that word
unfoldable pub last_word : (grown : Bool) → (t : ℕ) → ℕ
last_word grown t = pick grown ((t - 1) / word_bytes) 0

unfoldable pub last_byte : (grown : Bool) → (t : ℕ) → ℕ
last_byte grown t = pick grown ((t - 1) % word_bytes) 0

-- the square of the words, in its three parts
unfoldable pub square : (grown : Bool) → (t : ℕ) → Parts
square grown t = pick grown (split (words t)) (record { q2 = 0; e = 0; low = 0 })

-- what stands in three rows, one below the other
abbrev pub in_rows : (a b c : ℕ) → ℕ → ℕ
in_rows a b c zero = a
in_rows a b c (suc zero) = b
in_rows a b c (suc (suc i)) = c

-- the state that the greater end t leaves
unfoldable pub reach : (grown : Bool) → (t : ℕ) → State → State
reach grown t s = pick grown (record { mem = t; cost = cost (words t) }) s

-- row i of the cycle of an in-bounds claim with this stamp, where the state of its context was s
unfoldable pub in_row : (at_least grown : Bool) → ℕ → State → Claim → ℕ → Cells
in_row at_least grown stamp s c i =
    let t : ℕ = top c in
    let n : State = reach grown t s in
    let d : ℕ = apart at_least c.end1 c.end2 in
    let e : ℕ = above grown t s.mem in
    let q1 : ℕ = last_word grown t in
    let p : Parts = square grown t in
    let rest : ℕ = last_byte grown t in
    record {
      stamp = stamp;
      cn = c.context.cn;
      ooob = 0;
      ct = i;
      end1 = c.end1;
      end2 = c.end2;
      byte1 = digit_at in_last c.end1 i;
      byte2 = digit_at in_last c.end2 i;
      acc1 = prefix_at in_last c.end1 i;
      acc2 = prefix_at in_last c.end2 i;
      mem = s.mem;
      memn = n.mem;
      cost = s.cost;
      costn = n.cost;
      gas = n.cost - s.cost;
      comp = bit at_least;
      dbyte = digit_at in_last d i;
      dacc = prefix_at in_last d i;
      endmax = t;
      flag = bit grown;
      ebyte = digit_at in_last e i;
      eacc = prefix_at in_last e i;
      q1 = q1;
      q1byte = digit_at in_last q1 i;
      q1acc = prefix_at in_last q1 i;
      q2 = p.q2;
      q2byte = digit_at in_last (p.q2 % 256 ^ 3) i;
      q2acc = prefix_at in_last (p.q2 % 256 ^ 3) i;
      aux1 = in_rows 0 (pick grown (rest + aux_lift) 0) rest i;
      aux2 = in_rows p.e (p.q2 / 256 ^ 3) p.low i;
    }

-- the end that is at least 2^24: the first of them
unfoldable pub beyond_end : Claim → ℕ
beyond_end c = pick (leb bound c.end1) c.end1 c.end2

-- how far it is beyond the bound
abbrev pub beyond_by : Claim → ℕ
beyond_by c = beyond_end c - bound

-- row i of the cycle of an out-of-bounds claim: it carries the state on, and its ACC1 shows how far an end is beyond the bound
unfoldable pub out_row : ℕ → State → Claim → ℕ → Cells
out_row stamp s c i =
    let d : ℕ = beyond_by c in
    record {
      stamp = stamp;
      cn = c.context.cn;
      ooob = 1;
      ct = i;
      end1 = c.end1;
      end2 = c.end2;
      byte1 = digit_at out_last d i;
      byte2 = 0;
      acc1 = prefix_at out_last d i;
      acc2 = 0;
      mem = s.mem;
      memn = s.mem;
      cost = s.cost;
      costn = s.cost;
      gas = 0;
      comp = 0;
      dbyte = 0;
      dacc = 0;
      endmax = 0;
      flag = 0;
      ebyte = 0;
      eacc = 0;
      q1 = 0;
      q1byte = 0;
      q1acc = 0;
      q2 = 0;
      q2byte = 0;
      q2acc = 0;
      aux1 = 0;
      aux2 = 0;
    }

-- ---- cycles and traces

-- whether the first end is at least the second, and whether the end t is above the bytes reached
abbrev pub is_at_least : Claim → Bool
is_at_least c = leb c.end2 c.end1

abbrev pub is_grown : State → ℕ → Bool
is_grown s t = ltb s.mem t

-- row i of the cycle of a claim: the answers of the two comparisons, where it is in bounds
unfoldable pub row_of : ℕ → State → Claim → ℕ → Cells
row_of stamp s c i =
    pick (in_bounds c) (in_row (is_at_least c) (is_grown s (top c)) stamp s c i) (out_row stamp s c i)

-- the rows of one claim
unfoldable pub cycle_of : ℕ → State → Claim → List Cells
cycle_of stamp s c = table (suc (last_of c)) (row_of stamp s c)

-- the state of its context after a claim: what is reached grows by in-bounds claims alone
unfoldable pub after : State → Claim → State
after s c = reach (in_bounds c && ltb s.mem (top c)) (top c) s

-- the states of all contexts after it
abbrev pub after_claim : (Context → State) → Claim → Context → State
after_claim states c = put states c.context (after (states c.context) c)

-- the rows of the claims, the first of which has this stamp, where the states were these
unfoldable pub cycles_of : ℕ → (Context → State) → List Claim → List Cells
cycles_of stamp states [] = []
cycles_of stamp states (c ∷ cs) = cycle_of stamp (states c.context) c ++ cycles_of (suc stamp) (after_claim states c) cs

-- the trace of the claims after a number of empty rows, as rows and as bytes
unfoldable pub trace : ℕ → List Claim → List Cells
trace empty cs = replicate empty empty_row ++ cycles_of 1 fresh cs

unfoldable pub trace_bytes : ℕ → List Claim → List ℕ
trace_bytes empty cs = bytes_of (trace empty cs)

-- the states after claims
unfoldable pub after_claims : (Context → State) → List Claim → Context → State
after_claims states [] = states
after_claims states (c ∷ cs) = after_claims (after_claim states c) cs

-- the cycle of one claim more: the next stamp, at the state that its context was left in
abbrev pub cycle_after : List Claim → Claim → List Cells
cycle_after done c = cycle_of (suc (length done)) (after_claims fresh done c.context) c
