-- What is promised of the calls over a trace, over what they answer (`where_is`, `part_of`, `claim_in`): their contracts say that the answers are these.
use Prim.Native.Nat.{ℕ, suc, ◌/◌, ◌%◌, ◌<◌}
use mathlib.Core.List.{List}
use mathlib.Core.Logic.{◌≢◌, ◌⊎◌}
use mathlib.Core.Path.{◌≡◌, refl, ◌∙◌, ap}
use lib.ListN.{length, get_or, take, drop}
use Rattle.std.specs.Prelude.{Some, None, Ok, Err}
use Rattle.number.proofs.TestLaws.{clash}
use Rattle.model.specs.Columns.{row_bytes, row_at, rows_of, bytes_of}
use Rattle.model.specs.Cycles.{Cycle, Claim, instruction, is_instruction, part, instruction_part, instruction_claim}
use Rattle.model.specs.Promises.{WellSized, FirstBroken, Accepted, claims_in}
use Rattle.model.specs.State.{fresh}
use Rattle.model.specs.Tests.{pick}
use Rattle.model.specs.Trace.{cycle_of, after_claims}
use Rattle.model.specs.Verdict.{bad_length, too_many_rows, max_rows, verdict}
use Rattle.model.proofs.InstructionLaws.{is_instruction_lem, claim_is, part_is}
use Rattle.model.proofs.VerdictLaws.{verdict_broken, refused_length, refused_rows}
use Rattle.refusal.specs.Refusals.{not_accepted, no_instruction}
use Rattle.trace.specs.Asked.{Answer, given, refused, of_accepted, where_is, part_of, claim_in}
use Rattle.refusal.specs.declared.Refusal.{Refusal}
use Rattle.trace.specs.Told.{refusal_of, told_place, told_rows, PartNumbers, part_numbers}
use Rattle.trace.proofs.PlaceLaws.{where_none, where_given}

-- ---- the order of refusals

-- the order is the number: 9, whatever else is wrong; then 10; then 11; else the trace is accepted, and is asked
pub record InOrder {A : Type 0} (l : List ℕ) (asked answer : Answer A) : Type 0 where
  pub nine : (length l ≡ 0) ⊎ (length l % row_bytes ≢ 0) → answer ≡ refused bad_length
  pub ten : length l % row_bytes ≡ 0 → max_rows < length l / row_bytes → answer ≡ refused too_many_rows
  pub eleven : WellSized l → (i k : ℕ) → FirstBroken (row_at l) (length l / row_bytes) i k → answer ≡ refused not_accepted
  pub else : Accepted l → answer ≡ asked

-- for all bytes, whatever is asked
pub asked_in_order : {A : Type 0} (l : List ℕ) (asked : Answer A) → InOrder l asked (of_accepted (verdict l) asked)
asked_in_order l asked = record {
  nine = λ h. rw ((refused_length l).1 h);
  ten = λ whole many. rw ((refused_rows l).1 (whole, many));
  eleven = λ sized i k b. rw ((verdict_broken l i k).1 (sized, b));
  else = λ a. rw a.verdict;
}

-- the call for the rows refuses by the refusal of what it answers, and where there is none it gives the part
pub refusal_told : (l : List ℕ) (a : Answer Cycle) {r : Refusal} → refusal_of a ≡ Some r → told_rows l a ≡ Err r
refusal_told l (given c) e = clash cc
refusal_told l (refused n) e = cc

pub none_told : (l : List ℕ) (a : Answer Cycle) → refusal_of a ≡ None → told_rows l a ≡ Ok (part_of l a)
none_told l (given c) e = refl
none_told l (refused n) e = clash cc

module _ (l : List ℕ) (k : ℕ) where
  -- so it is where the rows or the claim of instruction k are asked for
  pub where_in_order : InOrder l (pick (is_instruction (rows_of l) k) (given (instruction (rows_of l) k)) (refused no_instruction)) (where_is l k)
  unfolding where_is
  where_in_order = asked_in_order l (pick (is_instruction (rows_of l) k) (given (instruction (rows_of l) k)) (refused no_instruction))

  -- and then 12: no instruction k
  pub where_then_none : Accepted l → (k ≡ 0) ⊎ (length (claims_in l) < k) → where_is l k ≡ refused no_instruction
  where_then_none a = where_none l a k

-- ---- the part by its numbers

-- the numbers that are told of a part name it: so many bytes of the trace from the first one on
pub numbers_name_the_part : (l : List ℕ) (k : ℕ)
    → let x : PartNumbers = part_numbers (told_place (where_is l k)) in take x.bytes (drop x.from l) ≡ part_of l (where_is l k)
unfolding part
numbers_name_the_part l k = by (where_is l k)
  where
    by : (a : Answer Cycle) → let x : PartNumbers = part_numbers (told_place a) in take x.bytes (drop x.from l) ≡ part_of l a
    by (given c) = refl
    by (refused n) = refl

-- ---- instruction suc k of an accepted trace

module _ (l : List ℕ) (a : Accepted l) (k : ℕ) (h : k < length (claims_in l)) where
  -- its rows and its claim are not refused
  pub where_not_refused : refusal_of (where_is l (suc k)) ≡ None
  where_not_refused = rw (where_given l a k h)

  -- the rows that come back are those of the definitions
  pub rows_are_the_models : part_of l (where_is l (suc k)) ≡ instruction_part l (suc k)
  unfolding instruction_part
  rows_are_the_models = rw (where_given l a k h, is_instruction_lem (rows_of l) k h)

  -- which are the cycle of its claim after the claims before it
  pub rows_are_the_cycle : part_of l (where_is l (suc k))
      ≡ bytes_of (cycle_of (suc k) (after_claims fresh (take k (claims_in l)) (instruction_claim l (suc k)).context) (instruction_claim l (suc k)))
  rows_are_the_cycle = rows_are_the_models ∙ part_is l a k h

  -- the claim that comes back is claim k (from 0) of the trace's claims
  pub claims_are_the_models : (d : Claim) → claim_in (where_is l (suc k)) ≡ given (get_or (claims_in l) k d)
  unfolding instruction_claim
  claims_are_the_models d = rw (where_given l a k h) (ap given (claim_is l a k h d))
