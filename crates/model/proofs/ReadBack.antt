-- What is read off a trace is what it was made from: its cycles, claims and counts, the rows of an instruction, and where its cycles end.
use Prim.Native.Nat.{ℕ, zero, suc, ◌+◌, ◌-◌, ◌<◌}
use mathlib.Core.Bool.{Bool, true, false, not}
use mathlib.Core.List.{List, [], ◌∷◌, ◌++◌, map}
use mathlib.Core.Path.{◌≡◌, refl, sym, ◌∙◌, ap}
use native.Mathlib.Nat.{add-zero, add-suc, suc-add, zero-add, sub_self}
use native.Mathlib.Omega.{arith}
use lib.Dec.{eqb, ltb, leb, eqb-suc-zero}
use lib.ListN.{length, get_or, take, drop, replicate, length-append, length-replicate, length-map}
use lib.Seq.{length-take-le, take-suc, split_at, take_at, drop-append_seam, get_or_at}
use Rattle.model.specs.Columns.{Cells, empty_row, table}
use Rattle.model.specs.Constraints.{in_last, out_last, last_ct, in_use}
use Rattle.model.specs.Cycles.{Cycle, rows_in, starts, cycles_from, cycles, Claim, claim_of, claims}
use Rattle.model.specs.Cycles.{count, is_oob, empty_rows, counts, no_cycle, instruction}
use Rattle.model.specs.Promises.{counts_of}
use Rattle.model.specs.State.{Context, State, context_of, state_of, fresh}
use Rattle.model.specs.Tests.{pick, bit}
use Rattle.model.specs.Trace.{in_bounds, last_of, top, reach, in_row, out_row, row_of, cycle_of, after, after_claim, after_claims, cycles_of, trace}
use Rattle.model.proofs.JoinLaws.{length_cycle, trace-append, trace_snoc}
use Rattle.model.proofs.TestFacts.{pick_under}

-- ---- a row

-- x is a row with CT i of the claim c at stamp k, where the state of the claim's context was s
pub record IsRow (k : ℕ) (s : State) (c : Claim) (i : ℕ) (x : Cells) : Type 0 where
  pub stamp : x.stamp ≡ k
  pub context : context_of x ≡ c.context
  pub ooob : x.ooob ≡ bit (not (in_bounds c))
  pub ct : x.ct ≡ i
  pub end1 : x.end1 ≡ c.end1
  pub end2 : x.end2 ≡ c.end2
  pub mem : x.mem ≡ s.mem
  pub cost : x.cost ≡ s.cost
  pub state : state_of x ≡ after s c
  pub gas : x.gas ≡ (after s c).cost - s.cost

row_by : (t : Bool) (k : ℕ) (s : State) (c : Claim) (i : ℕ) → in_bounds c ≡ t
    → IsRow k s c i (pick t (in_row (leb c.end2 c.end1) (ltb s.mem (top c)) k s c i) (out_row k s c i))
unfolding in_row out_row after reach
row_by true k s c i e = search e
row_by false k s c i e = search (e, sub_self)

-- the defined row is one
pub is_row : (k : ℕ) (s : State) (c : Claim) (i : ℕ) → IsRow k s c i (row_of k s c i)
unfolding row_of
is_row k s c i = row_by (in_bounds c) k s c i refl

last_by : (t : Bool) → last_ct (bit (not t)) ≡ pick t in_last out_last
unfolding last_ct
last_by true = refl
last_by false = refl

-- the last CT by OOOB is the claim's
pub last_of_row : (k : ℕ) (s : State) (c : Claim) (i : ℕ) → last_ct (row_of k s c i).ooob ≡ last_of c
unfolding last_of
last_of_row k s c i = ap last_ct (is_row k s c i).ooob ∙ last_by (in_bounds c)

-- the claim that a row shows is the claim that it was made from
pub claim_of_row : (k : ℕ) (s : State) (c : Claim) (i : ℕ) → claim_of (row_of k s c i) ≡ c
claim_of_row k s c i =
    let r = is_row k s c i in
    λ j. record { context = r.context j; end1 = r.end1 j; end2 = r.end2 j }

bit_test : (t : Bool) → eqb (bit t) 1 ≡ t
bit_test true = refl
bit_test false = refl

pub oob_of_row : (k : ℕ) (s : State) (c : Claim) (i : ℕ) → eqb (row_of k s c i).ooob 1 ≡ not (in_bounds c)
oob_of_row k s c i = ap (λ v. eqb v 1) (is_row k s c i).ooob ∙ bit_test (not (in_bounds c))

-- at a stamp from 1 up each row is one of an instruction, and row 0 alone starts a cycle
pub row-used : (k : ℕ) (s : State) (c : Claim) (i : ℕ) → in_use (row_of (suc k) s c i) ≡ true
unfolding in_use
row-used k s c i = rw ((is_row (suc k) s c i).stamp, eqb-suc-zero k)

starts_first : (k : ℕ) (s : State) (c : Claim) (i : ℕ) → starts (row_of (suc k) s c i) ≡ eqb i 0
unfolding starts
starts_first k s c i = rw (row-used k s c i, (is_row (suc k) s c i).ct)

-- ---- cycles

-- the cycles of claims, the first of which starts at row i with this stamp, where the states were these
unfoldable pub placed : ℕ → ℕ → (Context → State) → List Claim → List Cycle
placed i stamp states [] = []
placed i stamp states (c ∷ cs) =
    record { first = i; row = row_of stamp (states c.context) c 0 } ∷ placed (i + suc (last_of c)) (suc stamp) (after_claim states c) cs

-- the cycles of joined rows are those of each part
pub cycles_join : (i : ℕ) (xs ys : List Cells) → cycles_from i (xs ++ ys) ≡ cycles_from i xs ++ cycles_from (i + length xs) ys
unfolding cycles_from
cycles_join i [] ys = rw add-zero
cycles_join i (x ∷ xs) ys =
    let ds : List Cycle = cycles_from (suc i + length xs) ys in
    rw (cycles_join (suc i) xs ys, add-suc, ← suc-add)
    (pick_under (λ cs. cs ++ ds) (starts x) (record { first = i; row = x } ∷ cycles_from (suc i) xs) (cycles_from (suc i) xs))

cycles-none : (i n : ℕ) (f : ℕ → Cells) → ((j : ℕ) → starts (f j) ≡ false) → cycles_from i (table n f) ≡ []
unfolding cycles_from table
cycles-none i zero f h = refl
cycles-none i (suc n) f h = rw (h 0) (cycles-none (suc i) n (λ j. f (suc j)) (λ j. h (suc j)))

cycles_empty : (i n : ℕ) → cycles_from i (replicate n empty_row) ≡ []
unfolding cycles_from starts in_use
cycles_empty i zero = refl
cycles_empty i (suc n) = cycles_empty (suc i) n

-- the rows of a claim are one cycle
pub cycles-one : (i k : ℕ) (s : State) (c : Claim) → cycles_from i (cycle_of (suc k) s c) ≡ record { first = i; row = row_of (suc k) s c 0 } ∷ []
unfolding cycles_from cycle_of table
cycles-one i k s c =
    rw (starts_first k s c 0, cycles-none (suc i) (last_of c) (λ j. row_of (suc k) s c (suc j)) (λ j. starts_first k s c (suc j) ∙ eqb-suc-zero j))

cycles-placed : (i k : ℕ) (states : Context → State) (cs : List Claim) → cycles_from i (cycles_of (suc k) states cs) ≡ placed i (suc k) states cs
unfolding cycles_from cycles_of placed
cycles-placed i k states [] = refl
cycles-placed i k states (c ∷ cs) =
    rw (cycles_join, cycles-one i k (states c.context) c, length_cycle, cycles-placed (i + suc (last_of c)) (suc k) (after_claim states c) cs)

-- the empty rows start none, and each claim starts one
pub cycles_of_trace : (n : ℕ) (cs : List Claim) → cycles (trace n cs) ≡ placed n 1 fresh cs
unfolding trace
cycles_of_trace n cs = rw (cycles_join, cycles_empty 0 n, length-replicate, zero-add) (cycles-placed n 0 fresh cs)

-- one claim more is one cycle more
pub cycles_snoc : (n : ℕ) (cs : List Claim) (c : Claim)
    → cycles (trace n (cs ++ (c ∷ [])))
    ≡ cycles (trace n cs) ++ (record { first = length (trace n cs); row = row_of (suc (length cs)) (after_claims fresh cs c.context) c 0 } ∷ [])
cycles_snoc n cs c = rw (trace_snoc, cycles_join, zero-add, cycles-one)

-- ---- claims

claims-placed : (i k : ℕ) (states : Context → State) (cs : List Claim) → map (λ (c : Cycle). claim_of c.row) (placed i k states cs) ≡ cs
unfolding placed
claims-placed i k states [] = refl
claims-placed i k states (c ∷ cs) =
    λ j. claim_of_row k (states c.context) c 0 j ∷ claims-placed (i + suc (last_of c)) (suc k) (after_claim states c) cs j

-- the claims of a trace are those that it was made from
pub claims-trace : (n : ℕ) (cs : List Claim) → claims (trace n cs) ≡ cs
claims-trace n cs = rw (cycles_of_trace n cs) (claims-placed n 1 fresh cs)

-- ---- counts

-- as many instructions as claims
pub instructions_trace : (n : ℕ) (cs : List Claim) → length (cycles (trace n cs)) ≡ length cs
instructions_trace n cs = sym (length-map (cycles (trace n cs)) (λ (c : Cycle). claim_of c.row)) ∙ ap length (claims-trace n cs)

oob_placed : (i k : ℕ) (states : Context → State) (cs : List Claim) → count is_oob (placed i k states cs) ≡ count (λ c. not (in_bounds c)) cs
unfolding placed count
oob_placed i k states [] = refl
oob_placed i k states (c ∷ cs) =
    rw (oob_of_row k (states c.context) c 0, oob_placed (i + suc (last_of c)) (suc k) (after_claim states c) cs)

-- the entries that pass a test, in joined lists
pub count_join : {A : Type 0} (f : A → Bool) (xs ys : List A) → count f (xs ++ ys) ≡ count f xs + count f ys
unfolding count
count_join f [] ys = sym (zero-add (count f ys))
count_join f (x ∷ xs) ys =
    let m : ℕ = count f ys in
    rw (count_join f xs ys, ← suc-add) (pick_under (λ n. n + m) (f x) (suc (count f xs)) (count f xs))

count_none : {A : Type 0} (f : A → Bool) (n : ℕ) (g : ℕ → A) → ((j : ℕ) → f (g j) ≡ false) → count f (table n g) ≡ 0
unfolding count table
count_none f zero g h = refl
count_none f (suc n) g h = rw (h 0) (count_none f n (λ j. g (suc j)) (λ j. h (suc j)))

abbrev is_empty : Cells → Bool
is_empty x = not (in_use x)

empty_rows_lem : (n : ℕ) → count is_empty (replicate n empty_row) ≡ n
unfolding count in_use
empty_rows_lem zero = refl
empty_rows_lem (suc n) = ap suc (empty_rows_lem n)

pub empty_cycle : (k : ℕ) (s : State) (c : Claim) → count is_empty (cycle_of (suc k) s c) ≡ 0
unfolding cycle_of
empty_cycle k s c = count_none is_empty (suc (last_of c)) (row_of (suc k) s c) (λ j. ap not (row-used k s c j))

empty_cycles : (k : ℕ) (states : Context → State) (cs : List Claim) → count is_empty (cycles_of (suc k) states cs) ≡ 0
unfolding cycles_of count
empty_cycles k states [] = refl
empty_cycles k states (c ∷ cs) = rw (count_join, empty_cycle k (states c.context) c, empty_cycles (suc k) (after_claim states c) cs)

-- the empty rows of a trace are those that it was made with
pub empty_trace : (n : ℕ) (cs : List Claim) → empty_rows (trace n cs) ≡ n
unfolding trace empty_rows
empty_trace n cs = rw (count_join, empty_rows_lem n, empty_cycles 0 fresh cs, add-zero)

-- and so are its counts
pub counts-trace : (n : ℕ) (cs : List Claim) → counts (trace n cs) ≡ counts_of n cs
unfolding counts
counts-trace n cs =
    let oob : count is_oob (cycles (trace n cs)) ≡ count (λ c. not (in_bounds c)) cs = rw (cycles_of_trace n cs) (oob_placed n 1 fresh cs) in
    λ j. record { instructions = instructions_trace n cs j; oob = oob j; empty = empty_trace n cs j }

-- ---- an instruction

-- what stands for a claim where there is none
abbrev pub no_claim : Claim
no_claim = claim_of empty_row

module _ (n k : ℕ) (cs : List Claim) (d : Claim) (h : k < length cs) where
  -- its claim, the state of its context before it, and its cycle
  abbrev claim : Claim
  claim = get_or cs k d

  abbrev state : State
  state = after_claims fresh (take k cs) claim.context

  abbrev cycle : Cycle
  cycle = record { first = length (trace n (take k cs)); row = row_of (suc k) state claim 0 }

  -- its rows stand between those of the claims before it and those of the claims after it, and its cycle does so too
  trace_at : (rest : List Cells) × (trace n cs ≡ trace n (take k cs) ++ (cycle_of (suc k) state claim ++ rest))
  unfolding cycles_of
  trace_at =
      let l : length (take k cs) ≡ k = length-take-le k cs (omega arith) in
      (_, rw l at (ap (trace n) (split_at cs k d h) ∙ trace-append n (take k cs) (claim ∷ drop (suc k) cs)))

  cycles_at : (rest : List Cycle) × (cycles (trace n cs) ≡ cycles (trace n (take k cs)) ++ (cycle ∷ rest))
  cycles_at = (_, rw (cycles_join, zero-add, cycles_join, cycles-one cycle.first k state claim) at (ap cycles trace_at.1))

  -- instruction suc k is the cycle of claim k, at the state that the claims before it leave
  pub instruction-trace : instruction (trace n cs) (suc k) ≡ cycle
  unfolding instruction
  instruction-trace =
      let early : List Claim = take k cs in
      let l : length (cycles (trace n early)) ≡ k = omega (arith, instructions_trace n early, length-take-le k cs (omega arith)) in
      rw cycles_at.1 (get_or_at (cycles (trace n early)) cycle cycles_at.0 no_cycle k l)

  -- the rows from its first on are those of the claim
  pub rows_of_instruction : take (suc (last_of claim)) (drop (length (trace n (take k cs))) (trace n cs)) ≡ cycle_of (suc k) state claim
  rows_of_instruction =
      rw (trace_at.1, drop-append_seam)
      (take_at (cycle_of (suc k) state claim) trace_at.0 (suc (last_of claim)) (length_cycle (suc k) state claim))

-- the trace of the first claims is as long as the rows up to the end of the last one's cycle
pub cycle_end : (n k : ℕ) (cs : List Claim) → k < length cs
    → length (trace n (take (suc k) cs)) ≡ (instruction (trace n cs) (suc k)).first + rows_in (instruction (trace n cs) (suc k))
cycle_end n k cs h = rw (instruction-trace n k cs no_claim h, last_of_row, take-suc cs k no_claim h, trace_snoc, length-append, length_cycle)
