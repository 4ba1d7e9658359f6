-- A walker over an accepted trace gives its instructions one after another; over other bytes none is opened.
use Prim.Native.Nat.{ℕ, zero, suc, ◌-◌, ◌/◌, ◌%◌, ◌≤◌, ◌<◌}
use mathlib.Core.List.{List, []}
use mathlib.Core.Logic.{◌⊎◌}
use mathlib.Core.Path.{◌≡◌, refl, sym, ◌∙◌, ap}
use native.Mathlib.Decide.{ℕ_discrete}
use native.Mathlib.Omega.{arith}
use lib.ListN.{length, take, drop}
use Rattle.std.specs.Prelude.{Result, Ok, Err}
use Rattle.model.specs.Columns.{row_bytes, rows_of}
use Rattle.model.specs.Cycles.{instruction_part, next_row, part, Stepped, step}
use Rattle.model.specs.Promises.{Accepted, empty_in, claims_in}
use Rattle.model.specs.Verdict.{verdict, broken, max_rows, bad_length, too_many_rows}
use Rattle.model.proofs.InstructionLaws.{step_is, step_end}
use Rattle.model.proofs.VerdictLaws.{refused_length, refused_rows}
use Rattle.refusal.specs.Refusals.{lineless, not_accepted}
use Rattle.refusal.specs.declared.Refusal.{Refusal}
use Rattle.part.proofs.StepLaws.{step_stays, step_part, step_forward}
use Rattle.walker.specs.Walk.{start_of, Begun, begun, walked, first_part, walk, StepNumbers, step_numbers}
use Rattle.walker.proofs.NumberLaws.{numbers_stay, numbers_move}

-- ---- opened

-- a walker that was opened over the whole trace, at this row
abbrev pub begun_from : List ℕ → ℕ → Result Begun Refusal
begun_from l n = Ok (record { trace = l; next = n })

-- none was, for this refusal
abbrev pub begun_none : ℕ → Result Begun Refusal
begun_none m = Err (lineless m)

-- 9, then 10, then 11; else a walker is opened, which holds the trace, at the row after the empty ones
pub record InOrder (l : List ℕ) : Type 0 where
  pub nine : (length l ≡ 0) ⊎ (length l % row_bytes ≡ 0 → ⊥) → begun l ≡ begun_none bad_length
  pub ten : length l % row_bytes ≡ 0 → max_rows < length l / row_bytes → begun l ≡ begun_none too_many_rows
  pub eleven : (i k : ℕ) → verdict l ≡ broken i k → begun l ≡ begun_none not_accepted
  pub else : Accepted l → begun l ≡ begun_from l (empty_in l)

-- for all bytes
pub opens_in_order : (l : List ℕ) → InOrder l
unfolding start_of next_row
opens_in_order l = record {
  nine = λ h. rw ((refused_length l).1 h);
  ten = λ whole h. rw ((refused_rows l).1 (whole, h));
  eleven = λ i k e. rw e;
  else = λ a. rw a.verdict;
}

-- ---- the part of a step by its numbers

-- the numbers that are told of a step name its part: so many bytes of the trace from the first one on
pub numbers_name_the_part : (l : List ℕ) (i : ℕ)
    → let x : StepNumbers = step_numbers i (step l i) in take x.bytes (drop x.from l) ≡ (step l i).part
unfolding part
numbers_name_the_part l i = by (ℕ_discrete m i)
  where
    m : ℕ
    m = (step l i).next

    named : StepNumbers → List ℕ
    named x = take x.bytes (drop x.from l)

    by : Dec (m ≡ i) → named (step_numbers i (step l i)) ≡ (step l i).part
    by (yes e) = ap named (numbers_stay l i m refl e) ∙ sym (step_part l i 0 (omega (arith, e)))
    by (no on) = ap named (numbers_move l i m refl on) ∙ sym (step_part l i (m - i) (omega (arith, step_forward l i)))

-- ---- an accepted trace
module _ (l : List ℕ) (a : Accepted l) where
  -- at first the row after the empty ones
  opens : begun l ≡ begun_from l (next_row (rows_of l) 0)
  unfolding next_row
  opens = (opens_in_order l).else a

  -- a step of the walker is a step over the trace
  over : {i j : ℕ} → i ≡ j → step (walked (begun l)).trace i ≡ step l j
  over e = λ d. step (walked (opens d)).trace (e d)

  -- after k steps the walker stands at the row after k instructions
  pub walk_is : (k : ℕ) → k ≤ length (claims_in l) → walk l k ≡ next_row (rows_of l) k
  unfolding walk
  walk_is zero h = ap (λ (b : Result Begun Refusal). (walked b).next) opens
  walk_is (suc k) h = ap (λ (s : Stepped). s.next) (over (walk_is k (omega arith)) ∙ step_is l a k h)

  -- the next step gives the rows of the next instruction
  pub walk_gives : (k : ℕ) → k < length (claims_in l) → (step (walked (begun l)).trace (walk l k)).part ≡ instruction_part l (suc k)
  walk_gives k h = ap (λ (s : Stepped). s.part) (over (walk_is k (omega arith)) ∙ step_is l a k h)

  -- and after the last instruction an empty part, and the walker does not move
  pub walk_ends : step (walked (begun l)).trace (walk l (length (claims_in l))) ≡ record { part = []; next = walk l (length (claims_in l)) }
  walk_ends =
      let last : walk l (length (claims_in l)) ≡ next_row (rows_of l) (length (claims_in l)) = walk_is (length (claims_in l)) (omega arith) in
      rw last (over refl ∙ step_end l a)

  -- the first part is the rows of instruction 1
  pub first_is : 0 < length (claims_in l) → first_part l ≡ instruction_part l 1
  unfolding first_part walk
  first_is h = walk_gives 0 h

  -- of a trace without instructions it is empty
  pub first-none : length (claims_in l) ≡ 0 → first_part l ≡ []
  unfolding first_part walk
  first-none e = ap (λ (s : Stepped). s.part) (rw e at walk_ends)

-- on a refusal the first part is empty
pub first_refused : (l : List ℕ) (r : Refusal) → begun l ≡ Err r → first_part l ≡ []
unfolding first_part part
first_refused l r e =
    let stays : 0 ≡ (step [] 0).next = sym (step_stays [] 0 (omega arith)) in
    ap (λ (b : Result Begun Refusal). (step (walked b).trace (walked b).next).part) e ∙ step_part [] 0 0 stays
