-- What an accepted trace says of each of its instructions: its claim, its rows, its mark, its words and gas; and what joins to it or is cut off it.
use Prim.Native.Nat.{ℕ, zero, suc, ◌+◌, ◌*◌, ◌/◌, ◌<◌, ◌≤◌}
use mathlib.Core.Bool.{true, false}
use mathlib.Core.List.{List, [], ◌∷◌, ◌++◌}
use mathlib.Core.Logic.{◌↔◌, ◌⊎◌, inl, inr}
use mathlib.Core.Path.{◌≡◌, sym, ◌∙◌, ap}
use native.Mathlib.Nat.{add-zero}
use native.Mathlib.Omega.{arith}
use borrow.Author.Tests.{le-leb, lt-leb}
use lib.Dec.{leb}
use lib.ListN.{length, get_or, take, drop, length-map, length-take, length-drop}
use lib.Seq.{take-length, get_or-take, get_or-drop}
use Rattle.number.specs.Whole.{bound}
use Rattle.number.proofs.TestLaws.{both_intro}
use Rattle.gas.specs.Gas.{words, cost}
use Rattle.model.specs.Alone.{reached, own_claims, row_after, Alone, ByPaper, SameCharge}
use Rattle.model.specs.Columns.{Cells, empty_row, row_bytes, row_at, rows_of, bytes_of, row_in}
use Rattle.model.specs.Constraints.{last_ct}
use Rattle.model.specs.Cycles.{Cycle, rows_in, cycles, Claim, claim_of, claims, counts, instruction, part, is_instruction}
use Rattle.model.specs.Cycles.{instruction_part, instruction_claim, last_state, next_row, step}
use Rattle.model.specs.Promises.{Valid, Fits, Accepted, empty_in, claims_in, Carries}
use Rattle.model.specs.State.{Context, fresh}
use Rattle.model.specs.Trace.{in_bounds, last_of, cycle_of, cycles_of, after_claims, trace, trace_bytes, cycle_after}
use Rattle.model.proofs.AloneLaws.{after-reached, alone_same, marks, row_alone, out_adds_nothing, row_by_paper}
use Rattle.model.proofs.ExactlyOne.{rows_own, accepted_own, trace_carries}
use Rattle.model.proofs.JoinLaws.{length_cycle, length-trace, bytes_snoc, cut_le, bytes_cut}
use Rattle.model.proofs.LastState.{last_trace}
use Rattle.model.proofs.ReadBack.{claim_of_row, last_of_row, instruction-trace, rows_of_instruction, cycle_end}
use Rattle.model.proofs.RowBytes.{length_rows, row_of_rows, length_bytes, bytes_part}
use Rattle.model.proofs.TableOf.{get_or-table}

-- the first of valid claims are valid
pub valid_take : (k : ℕ) (cs : List Claim) → Valid cs → Valid (take k cs)
valid_take zero cs v = tt
valid_take (suc k) [] v = tt
valid_take (suc k) (c ∷ cs) v = (v.0, valid_take k cs v.1)

-- fewer claims fit too
fits_take : (n k : ℕ) (cs : List Claim) → Fits n cs → Fits n (take k cs)
fits_take n k cs f = record { some = f.some; valid = valid_take k cs f.valid; rows = omega (arith, f.rows, cut_le n k cs) }

-- ---- which instructions there are

module _ (rows : List Cells) where
  -- as many are counted as there are claims
  pub instructions_counted : (counts rows).instructions ≡ length (claims rows)
  unfolding counts
  instructions_counted = sym (length-map (cycles rows) (λ (c : Cycle). claim_of c.row))

  -- instruction suc k is there where claim k is
  pub is_instruction_lem : (k : ℕ) → k < length (claims rows) → is_instruction rows (suc k) ≡ true
  unfolding is_instruction counts
  is_instruction_lem k h =
      both_intro _ _ (le-leb 1 (suc k) (omega arith)) (le-leb (suc k) (length (cycles rows)) (omega (arith, instructions_counted)))

  -- there is no instruction 0, and none after the last
  pub no_instruction_lem : (k : ℕ) → (k ≡ 0) ⊎ (length (claims rows) < k) → is_instruction rows k ≡ false
  unfolding is_instruction counts
  no_instruction_lem k (inl e) = rw e
  no_instruction_lem k (inr h) =
      rw (lt-leb k (length (cycles rows)) (omega (arith, instructions_counted)), le-leb 1 k (omega arith))

-- ---- what an accepted trace says

module _ (l : List ℕ) (a : Accepted l) where
  abbrev n : ℕ
  n = empty_in l

  abbrev cs : List Claim
  cs = claims_in l

  -- it is the trace of its own empty rows and claims, as bytes and in whatever is read off its rows
  own_bytes : l ≡ trace_bytes n cs
  own_bytes = (accepted_own l a).bytes

  read : {A : Type 0} (f : List Cells → A) → f (rows_of l) ≡ f (trace n cs)
  read f = ap f (rows_own l a)

  rows_count : length l / row_bytes ≡ length (trace n cs)
  rows_count = sym (length_rows l) ∙ read length

  -- ---- instruction suc k
  module _ (k : ℕ) (h : k < length cs) where
    abbrev c : Claim
    c = instruction_claim l (suc k)

    -- the claims before it
    abbrev done : List Claim
    done = take k cs

    abbrev cycle : Cycle
    cycle = instruction (rows_of l) (suc k)

    -- its claim is claim k of the trace's claims
    pub claim_is : (d : Claim) → c ≡ get_or cs k d
    unfolding instruction_claim
    claim_is d =
        read (λ rows. claim_of (instruction rows (suc k)).row)
        ∙ ap (λ (y : Cycle). claim_of y.row) (instruction-trace n k cs d h) ∙ claim_of_row (suc k) _ (get_or cs k d) 0

    cycle_is : cycle ≡ record { first = length (trace n done); row = row_after (suc k) done c 0 }
    cycle_is = rw (← claim_is c) at (read (λ rows. instruction rows (suc k)) ∙ instruction-trace n k cs c h)

    first_is : cycle.first ≡ length (trace n done)
    first_is = ap (λ (y : Cycle). y.first) cycle_is

    first_row_is : cycle.row ≡ row_after (suc k) done c 0
    first_row_is = ap (λ (y : Cycle). y.row) cycle_is

    rows_in_lem : rows_in cycle ≡ suc (last_of c)
    rows_in_lem = ap suc (ap (λ (x : Cells). last_ct x.ooob) first_row_is ∙ last_of_row (suc k) (after_claims fresh done c.context) c 0)

    rows_of_lem : take (suc (last_of c)) (drop (length (trace n done)) (trace n cs)) ≡ cycle_of (suc k) (after_claims fresh done c.context) c
    rows_of_lem = rw (← claim_is c) at (rows_of_instruction n k cs c h)

    -- so many rows are there
    inside : length (trace n done) + suc (last_of c) ≤ length (trace n cs)
    inside =
        omega (
          arith,
          length-take (suc (last_of c)) (drop (length (trace n done)) (trace n cs)),
          length-drop (length (trace n done)) (trace n cs),
          ap length rows_of_lem,
          length_cycle (suc k) (after_claims fresh done c.context) c,
        )

    part_there : part l cycle.first (rows_in cycle) ≡ instruction_part l (suc k)
    unfolding instruction_part
    part_there = rw (is_instruction_lem (rows_of l) k h)

    -- its rows, as a part of the trace itself, are the cycle of its claim after the claims before it
    pub part_is : instruction_part l (suc k) ≡ bytes_of (cycle_of (suc k) (after_claims fresh done c.context) c)
    unfolding part trace_bytes
    part_is =
        let p : ℕ = length (trace n done) in
        let m : ℕ = suc (last_of c) in
        sym part_there ∙ rw (rows_in_lem, first_is) (ap (λ (b : List ℕ). take (m * row_bytes) (drop (p * row_bytes) b)) own_bytes
        ∙ bytes_part (trace n cs) p m inside ∙ ap bytes_of rows_of_lem)

    -- each of its rows is that of its claim after the claims before it
    pub row_is : (i : ℕ) → i ≤ last_of c → row_at l (cycle.first + i) ≡ row_after (suc k) done c i
    unfolding cycle_of
    row_is i m =
        let p : ℕ = length (trace n done) in
        let t : row_in (take (suc (last_of c)) (drop p (trace n cs))) i ≡ row_in (trace n cs) (p + i) =
        get_or-take (suc (last_of c)) (drop p (trace n cs)) i empty_row (omega arith) ∙ get_or-drop p (trace n cs) i empty_row in
        rw first_is (row_of_rows l (p + i) (omega (arith, inside, read length)) ∙ read (λ rows. row_in rows (p + i)) ∙ sym t
        ∙ ap (λ (rows : List Cells). row_in rows i) rows_of_lem ∙ get_or-table (suc (last_of c)) (row_after (suc k) done c) i empty_row (omega arith))

    module _ (i : ℕ) (m : i ≤ last_of c) where
      abbrev row : Cells
      row = row_at l (cycle.first + i)

      -- words and gas follow from its own claim and the earlier in-bounds ones of its context alone
      pub alone : Alone row done c
      alone = rw (row_is i m) (row_alone (suc k) done c i)

      -- and are the Yellow Paper's
      pub by-paper : ByPaper row done c
      by-paper = rw (row_is i m) (row_by_paper (suc k) done c i)

      -- OOOB is 1 exactly if an end is 2^24 or more
      pub marked : (row.ooob ≡ 1) ↔ ((bound ≤ c.end1) ⊎ (bound ≤ c.end2))
      marked = rw alone.mark (marks c)

      -- an out-of-bounds instruction adds nothing and costs 0
      pub out_is_free : in_bounds c ≡ false → (row.memn ≡ reached c.context done) × (row.gas ≡ 0)
      out_is_free e =
          let free = out_adds_nothing (suc k) done c i e in
          (alone.memn ∙ free.0, rw (row_is i m) free.1)

  -- ---- from one cycle to the next

  -- the next row after k instructions is as many rows on as their trace has
  next_is : (k : ℕ) → k ≤ length cs → next_row (rows_of l) k ≡ length (trace n (take k cs))
  unfolding next_row cycles_of
  next_is zero h = rw (length-trace, add-zero)
  next_is (suc k) h = read (λ rows. (instruction rows (suc k)).first + rows_in (instruction rows (suc k))) ∙ sym (cycle_end n k cs h)

  -- there instruction suc k starts
  pub instruction_at : (k : ℕ) → k < length cs
      → instruction (rows_of l) (suc k) ≡ record { first = next_row (rows_of l) k; row = row_at l (next_row (rows_of l) k) }
  instruction_at k h =
      let first : (cycle k h).first ≡ next_row (rows_of l) k = first_is k h ∙ sym (next_is k (omega arith)) in
      let row : (cycle k h).row ≡ row_at l (cycle k h).first = first_row_is k h ∙ sym (rw add-zero at (row_is k h 0 (omega arith))) in
      λ i. record { first = first i; row = (row ∙ ap (row_at l) first) i }

  -- and it has as many rows as its first row says
  pub next_after : (k : ℕ) → k < length cs
      → next_row (rows_of l) (suc k) ≡ next_row (rows_of l) k + suc (last_ct (row_at l (next_row (rows_of l) k)).ooob)
  unfolding next_row
  next_after k h = ap (λ (y : Cycle). y.first + rows_in y) (instruction_at k h)

  -- the rows before the next row are all there
  pub next_inside : (k : ℕ) → k ≤ length cs → next_row (rows_of l) k * row_bytes ≤ length l
  next_inside k h = omega (arith, next_is k h, cut_le n k cs, rows_count)

  -- and so is the next row itself, where an instruction is left
  pub next_there : (k : ℕ) → k < length cs → (next_row (rows_of l) k + 1) * row_bytes ≤ length l
  next_there k h = omega (arith, next_inside (suc k) h, next_after k h)

  -- the step of a walker that stands there gives the rows of instruction suc k, and moves past them
  pub step_is : (k : ℕ) (h : k < length cs)
      → step l (next_row (rows_of l) k) ≡ record { part = instruction_part l (suc k); next = next_row (rows_of l) (suc k) }
  unfolding step
  step_is k h =
      let q : ℕ = next_row (rows_of l) k in
      let fits : leb (q + suc (last_ct (row_at l q).ooob)) (length l / row_bytes) ≡ true =
      le-leb _ (length l / row_bytes) (omega (arith, next_inside (suc k) h, next_after k h)) in
      rw (fits, ← part_there k h, instruction_at k h, next_after k h)

  -- after the last instruction it gives an empty part and does not move
  pub step_end : step l (next_row (rows_of l) (length cs)) ≡ record { part = []; next = next_row (rows_of l) (length cs) }
  unfolding step
  step_end =
      let q : ℕ = next_row (rows_of l) (length cs) in
      let last : q ≡ length l / row_bytes = next_is (length cs) (omega arith) ∙ rw (take-length cs) (sym rows_count) in
      let over : leb (q + suc (last_ct (row_at l q).ooob)) (length l / row_bytes) ≡ false = lt-leb _ (length l / row_bytes) (omega arith) in
      rw over

  -- ---- cut and joined

  -- the trace cut there is the trace of the first k claims
  pub cut_is : (k : ℕ) → k ≤ length cs → take (next_row (rows_of l) k * row_bytes) l ≡ trace_bytes n (take k cs)
  unfolding trace_bytes
  cut_is k h =
      let e : length (trace_bytes n (take k cs)) ≡ next_row (rows_of l) k * row_bytes =
      length_bytes (trace n (take k cs)) ∙ ap (λ (m : ℕ). m * row_bytes) (sym (next_is k h)) in
      rw (← e) (ap (take (length (trace_bytes n (take k cs)))) own_bytes ∙ bytes_cut n k cs)

  -- and is accepted with just these
  pub cut_carries : (k : ℕ) → k ≤ length cs → Carries n (take k cs) (take (next_row (rows_of l) k * row_bytes) l)
  cut_carries k h = rw (cut_is k h) (trace_carries n (take k cs) (fits_take n k cs (accepted_own l a).fits))

  -- the trace with one claim more is the trace followed by that claim's cycle
  pub join_is : (c : Claim) → trace_bytes n (cs ++ (c ∷ [])) ≡ l ++ bytes_of (cycle_after cs c)
  join_is c = bytes_snoc n cs c ∙ ap (λ (m : List ℕ). m ++ bytes_of (cycle_after cs c)) (sym own_bytes)

  -- and is accepted with just these claims, where they fit
  pub join_carries : (c : Claim) → Fits n (cs ++ (c ∷ []))
      → Carries n (cs ++ (c ∷ [])) (l ++ bytes_of (cycle_after cs c))
  join_carries c f = rw (← join_is c) (trace_carries n (cs ++ (c ∷ [])) f)

  -- ---- the last state

  -- the state of a context's last cycle is that of its in-bounds claims: what constraint 9 asks of a next instruction of that context
  pub last_state_is : (x : Context) → (last_state (rows_of l) x).state ≡ record { mem = reached x cs; cost = cost (words (reached x cs)) }
  last_state_is x = read (λ rows. (last_state rows x).state) ∙ last_trace n cs x ∙ after-reached cs x

module _ (l m : List ℕ) (a : Accepted l) (b : Accepted m) (k j : ℕ) (h : k < length (claims_in l)) (g : j < length (claims_in m)) where
  -- in any two accepted traces, instructions with one claim and the same earlier in-bounds claims of its context have the same mark, words and gas
  pub own_claims_suffice : instruction_claim l (suc k) ≡ instruction_claim m (suc j)
      → own_claims (instruction_claim l (suc k)).context (take k (claims_in l)) ≡ own_claims (instruction_claim l (suc k)).context (take j (claims_in m))
      → (i : ℕ) → i ≤ last_of (instruction_claim l (suc k))
      → SameCharge (row_at l ((instruction (rows_of l) (suc k)).first + i)) (row_at m ((instruction (rows_of m) (suc j)).first + i))
  own_claims_suffice e o i q =
      let c : Claim = instruction_claim l (suc k) in
      let there : Alone (row_at m ((instruction (rows_of m) (suc j)).first + i)) (take j (claims_in m)) c = rw e (alone m b j g i (rw e at q)) in
      alone_same _ _ (take k (claims_in l)) (take j (claims_in m)) c (alone l a k h i q) there o
