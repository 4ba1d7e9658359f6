-- What the calls over a trace answer where they refuse, in document 01's numbers.
use Prim.Native.Nat.{ℕ}
use mathlib.Core.Bool.{Bool, true, false}
use mathlib.Core.List.{List}
use mathlib.Core.Path.{◌≡◌, refl}
use native.Mathlib.Omega.{arith}
use Rattle.number.proofs.TestLaws.{clash}
use Rattle.model.specs.Columns.{rows_of}
use Rattle.model.specs.Cycles.{Cycle, instruction, is_instruction}
use Rattle.model.specs.Tests.{pick}
use Rattle.model.specs.Verdict as model
use Rattle.model.specs.Verdict.{Verdict, verdict}
use Rattle.refusal.specs.Refusals.{not_accepted, no_instruction}
use Rattle.refusal.proofs.NumberLaws.{Kept, kept_lineless}
use Rattle.checker.proofs.RefusalLaws.{verdict_kept}
use Rattle.trace.specs.Asked.{Answer, given, refused, of_accepted, where_is, claim_in}
use Rattle.trace.specs.Told.{told_place, part_numbers, told_claimed, claim_numbers}

-- refusals of one number are kept alike
pub alike : {A : Type 0} {m n : ℕ} → Kept m 0 → let r : Answer A = refused m in r ≡ refused n → Kept n 0
alike {A} {m} {n} s e =
    let number : m ≡ n = cc in
    rw number at s

-- where what an accepted trace is asked keeps the number of its refusals, so does the answer on any bytes
pub asked_kept : {A : Type 0} (l : List ℕ) (a : Answer A) {n : ℕ} → ((m : ℕ) → a ≡ refused m → Kept m 0)
    → of_accepted (verdict l) a ≡ refused n → Kept n 0
asked_kept {A} l a {n} of e = by (verdict l) refl e
  where
    by : (v : Verdict) → verdict l ≡ v → of_accepted v a ≡ refused n → Kept n 0
    by (model.accepted c) f h = of n h
    by (model.broken i k) f h = alike {A = A} (kept_lineless not_accepted (omega arith) (omega arith)) h
    by (model.refused m) f h = alike {A = A} (verdict_kept l f) h

where_kept : (l : List ℕ) (k : ℕ) {n : ℕ} → where_is l k ≡ refused n → Kept n 0
unfolding where_is
where_kept l k {n} e = asked_kept l _ (λ m. by m (is_instruction (rows_of l) k)) e
  where
    by : (m : ℕ) (t : Bool) → pick t (given (instruction (rows_of l) k)) (refused no_instruction) ≡ refused m → Kept m 0
    by m true h = clash cc
    by m false h = alike {A = Cycle} (kept_lineless no_instruction (omega arith) (omega arith)) h

-- the number of a refusal is told of the rows, and 0 for all else
pub refused_part_numbers : (l : List ℕ) (k : ℕ) {n : ℕ} → where_is l k ≡ refused n
    → part_numbers (told_place (where_is l k)) ≡ record { refused = n; line = 0; from = 0; bytes = 0 }
refused_part_numbers l k e =
    let kept = where_kept l k e in
    rw e (λ i. record { refused = kept.0 i; line = kept.1 i; from = 0; bytes = 0 })

-- and so it is of the claim
pub refused_claim_numbers : (l : List ℕ) (k : ℕ) {n : ℕ} → where_is l k ≡ refused n
    → claim_numbers (told_claimed (claim_in (where_is l k))) ≡ record { refused = n; line = 0; cn = 0; end1 = 0; end2 = 0 }
refused_claim_numbers l k e =
    let kept = where_kept l k e in
    rw e (λ i. record { refused = kept.0 i; line = kept.1 i; cn = 0; end1 = 0; end2 = 0 })
