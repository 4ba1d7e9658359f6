-- Where instruction k stands, case by case; and what is known where a place was told.
use Prim.Native.Nat.{ℕ, zero, suc, ◌+◌, ◌*◌, ◌≤◌, ◌<◌}
use mathlib.Core.Bool.{Bool, true, false, ◌&&◌}
use mathlib.Core.List.{List}
use mathlib.Core.Logic.{◌⊎◌, inl, inr}
use mathlib.Core.Path.{◌≡◌, refl, sym, ◌∙◌, ap}
use native.Mathlib.Omega.{arith}
use borrow.Author.Tests.{leb-true, leb-false}
use lib.Dec.{leb}
use lib.ListN.{length}
use Rattle.std.specs.Prelude.{Ok, Err}
use Rattle.number.specs.Num.{AllBytes}
use Rattle.number.proofs.TestLaws.{clash, both}
use Rattle.model.specs.Columns.{row_bytes, row_at, rows_of}
use Rattle.model.specs.Cycles.{cycle_rows, Cycle, counts, instruction, is_instruction, next_row}
use Rattle.model.specs.Promises.{Accepted, empty_in, claims_in}
use Rattle.model.specs.Verdict as model
use Rattle.model.specs.Verdict.{Verdict, verdict}
use Rattle.model.proofs.ExactlyOne.{accepted_by}
use Rattle.model.proofs.InstructionLaws.{instructions_counted, is_instruction_lem, no_instruction_lem, instruction_at, next_after, next_inside}
use Rattle.refusal.specs.Refusals.{lineless, not_accepted, no_instruction}
use Rattle.refusal.specs.declared.Refusal.{Refusal}
use Rattle.count.specs.declared.Counts.{Counts}
use Rattle.trace.specs.Asked.{Answer, given, refused, where_is, admitted}
use Rattle.trace.specs.Told.{told_admitted, told_place}
use Rattle.trace.specs.declared.place.Place.{Place}
use Rattle.trace.proofs.AdmitLaws.{accepted_if_admitted, instructions_told, empty_told}

-- ---- what is answered

-- the cycle that starts at a row of the bytes
abbrev pub cycle_at : List ℕ → ℕ → Cycle
cycle_at l i = record { first = i; row = row_at l i }

module _ (l : List ℕ) where
  -- bytes that are no trace are refused as the verdict says
  where_no_trace : {m : ℕ} (k : ℕ) → verdict l ≡ model.refused m → where_is l k ≡ refused m
  unfolding where_is
  where_no_trace k e = rw e

  -- a trace that breaks a constraint is not accepted
  where_broken : {i j : ℕ} (k : ℕ) → verdict l ≡ model.broken i j → where_is l k ≡ refused not_accepted
  unfolding where_is
  where_broken k e = rw e

  module _ (a : Accepted l) where
    -- an accepted trace has no other instructions than are counted
    pub where_not_counted : (k n : ℕ) → n ≡ length (claims_in l) → (leb 1 k && leb k n) ≡ false → where_is l k ≡ refused no_instruction
    unfolding where_is is_instruction counts
    where_not_counted k n e h = rw (a.verdict, rw (e ∙ sym (instructions_counted (rows_of l))) at h)

    -- none 0, and none after the last
    pub where_none : (k : ℕ) → (k ≡ 0) ⊎ (length (claims_in l) < k) → where_is l k ≡ refused no_instruction
    unfolding where_is
    where_none k h = rw (a.verdict, no_instruction_lem (rows_of l) k h)

    module _ (k : ℕ) (h : k < length (claims_in l)) where
      -- any other stands where the definitions say
      pub where_given : where_is l (suc k) ≡ given (instruction (rows_of l) (suc k))
      unfolding where_is
      where_given = rw (a.verdict, is_instruction_lem (rows_of l) k h)

      -- which is the row after the instructions before it
      pub where_next : where_is l (suc k) ≡ given (cycle_at l (next_row (rows_of l) k))
      where_next = where_given ∙ ap given (instruction_at l a k h)

-- ---- instruction k of an accepted trace with these counts

pub record Among (l : List ℕ) (c : Counts) (k : ℕ) : Type 0 where
  pub accepted : Accepted l
  pub empty : c.empty ≡ empty_in l
  pub some : 1 ≤ k
  pub few : k ≤ length (claims_in l)

-- it is there, if the trace was let in with these counts and k is one of their instructions
pub among : (l : List ℕ) → AllBytes l → {c : Counts} → Ok c ≡ told_admitted (admitted l) → (k : ℕ) → (leb 1 k && leb k c.instructions) ≡ true → Among l c k
among l bytes {c} told k counted =
    let (accepted, counts) = accepted_if_admitted l bytes (sym told) in
    let (some, few) = both (leb 1 k) (leb k c.instructions) counted in
    record {
      accepted = accepted;
      empty = empty_told l counts;
      some = leb-true 1 k some;
      few = rw (instructions_told l counts) at (leb-true k c.instructions few);
    }

-- ---- what was told

-- what is so where instruction k was told to stand at row `first` with n rows: its cycle starts there, has so many rows, and they are all there
pub record Stands (l : List ℕ) (k first n : ℕ) : Type 0 where
  pub cycle : where_is l k ≡ given (cycle_at l first)
  pub rows : n ≡ cycle_rows (row_at l first)
  pub inside : (first + n) * row_bytes ≤ length l

-- so it is for the instructions of an accepted trace
stands_next : (l : List ℕ) (a : Accepted l) (k : ℕ) → k < length (claims_in l)
    → Stands l (suc k) (next_row (rows_of l) k) (cycle_rows (row_at l (next_row (rows_of l) k)))
stands_next l a k h = record {
  cycle = where_next l a k h;
  rows = refl;
  inside = omega (arith, next_inside l a (suc k) h, next_after l a k h);
}

-- a place that was told is one where the instruction stands
pub told_stands : (l : List ℕ) → AllBytes l → (k : ℕ) {p : Place} → told_place (where_is l k) ≡ Ok p → Stands l k p.first p.rows
told_stands l bytes k {p} told = by (verdict l) refl
  where
    not_refused : {m : ℕ} → where_is l k ≡ refused m → Stands l k p.first p.rows
    not_refused {m} e =
        let h : Err (lineless m) ≡ Ok p = sym (ap told_place e) ∙ told in
        clash cc

    inner : Accepted l → (j : ℕ) → k ≡ j → (t : Bool) → leb j (length (claims_in l)) ≡ t → Stands l k p.first p.rows
    inner a zero e t h = not_refused (where_none l a k (inl e))
    inner a (suc j) e false h = not_refused (where_none l a k (inr (omega (arith, leb-false (suc j) (length (claims_in l)) h))))
    inner a (suc j) e true h =
        let s = stands_next l a j (leb-true (suc j) (length (claims_in l)) h) in
        let q : ℕ = next_row (rows_of l) j in
        let stood : Place = record { first = q; rows = cycle_rows (row_at l q) } in
        let same : Ok stood ≡ Ok p = sym (ap told_place s.cycle) ∙ ap (λ m. told_place (where_is l m)) (sym e) ∙ told in
        let place : stood ≡ p = cc in
        rw (e, ← place) s

    by : (v : Verdict) → verdict l ≡ v → Stands l k p.first p.rows
    by (model.accepted d) e = inner (accepted_by l d bytes e) k refl (leb k (length (claims_in l))) refl
    by (model.broken i j) e = not_refused (where_broken l k e)
    by (model.refused m) e = not_refused (where_no_trace l k e)

-- a refusal that was told is the answer
pub told_refused : (a : Answer Cycle) {w : Refusal} → told_place a ≡ Err w → (n : ℕ) × (w ≡ lineless n) × (a ≡ refused n)
told_refused (given c) e = clash cc
told_refused (refused n) e = (n, cc, refl)
