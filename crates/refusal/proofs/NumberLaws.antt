-- A number from 1 to 14 is that of its refusal, a line is kept where the refusal has one, and each refusal is that of its number and line.
use Prim.Native.Nat.{ℕ, zero, suc, ◌≤◌}
use mathlib.Core.Bool.{Bool, true, false}
use mathlib.Core.Logic.{◌≢◌}
use mathlib.Core.Path.{◌≡◌, refl, sym, ◌∙◌}
use native.Mathlib.Omega.{arith}
use borrow.Author.Tests.{eqb-true, eqb-false}
use lib.Dec.{eqb}
use Rattle.number.specs.Tests.{pick}
use Rattle.refusal.specs.Refusals.{number, line, in_line, lineless}
use Rattle.refusal.specs.declared.Refusal.{Refusal}
use Rattle.refusal.specs.declared.Refusal.TheVariants.{ListTooLong, NoEmptyRow, NotOfForm, CnZero, NotListed, UnusedField, FillTooLong, BufferShort}
use Rattle.refusal.specs.declared.Refusal.TheVariants.{BadLength, TooManyRows, NotAccepted, NoInstruction, ContextZero, LimitTooLow}

-- where a number is k, the refusal with k has it; else that of a later number
numbered : (n k : ℕ) (a b : Refusal) → number a ≡ k → (n ≢ k → number b ≡ n) → number (pick (eqb n k) a b) ≡ n
numbered n k a b e later = by (eqb n k) refl
  where
    by : (t : Bool) → eqb n k ≡ t → number (pick t a b) ≡ n
    by true q = e ∙ sym (eqb-true n k q)
    by false q = later (eqb-false n k q)

-- the refusal with a number from 1 to 14 has that number, in any line
pub number_in_line : (n l : ℕ) → 1 ≤ n → n ≤ 14 → number (in_line n l) ≡ n
number_in_line n l h k =
    numbered n 1 _ _ refl (λ n1. numbered n 2 _ _ refl (λ n2. numbered n 3 _ _ refl (λ n3. numbered n 4 _ _ refl
    (λ n4. numbered n 5 _ _ refl (λ n5. numbered n 6 _ _ refl (λ n6. numbered n 7 _ _ refl (λ n7. numbered n 8 _ _ refl
    (λ n8. numbered n 9 _ _ refl (λ n9. numbered n 10 _ _ refl (λ n10. numbered n 11 _ _ refl (λ n11. numbered n 12 _ _ refl
    (λ n12. numbered n 13 _ _ refl (λ n13. omega arith)))))))))))))

-- where a number is k, the refusal with k has the line; else that of a later number
lined : (n k l : ℕ) (a b : Refusal) → line a ≡ l → (n ≢ k → line b ≡ l) → line (pick (eqb n k) a b) ≡ l
lined n k l a b e later = by (eqb n k) refl
  where
    by : (t : Bool) → eqb n k ≡ t → line (pick t a b) ≡ l
    by true q = e
    by false q = later (eqb-false n k q)

-- the refusal with a number from 3 to 6 has the line
pub line_in_line : (n l : ℕ) → 3 ≤ n → n ≤ 6 → line (in_line n l) ≡ l
line_in_line (suc (suc (suc zero))) l h k = refl
line_in_line (suc (suc (suc (suc zero)))) l h k = refl
line_in_line (suc (suc (suc (suc (suc zero))))) l h k = refl
line_in_line (suc (suc (suc (suc (suc (suc zero)))))) l h k = refl
line_in_line n l h k = absurd (omega arith)

-- a refusal of no line has line 0
pub line_lineless : (n : ℕ) → line (lineless n) ≡ 0
line_lineless n =
    lined n 1 0 _ _ refl (λ n1. lined n 2 0 _ _ refl (λ n2. lined n 3 0 _ _ refl (λ n3. lined n 4 0 _ _ refl
    (λ n4. lined n 5 0 _ _ refl (λ n5. lined n 6 0 _ _ refl (λ n6. lined n 7 0 _ _ refl (λ n7. lined n 8 0 _ _ refl
    (λ n8. lined n 9 0 _ _ refl (λ n9. lined n 10 0 _ _ refl (λ n10. lined n 11 0 _ _ refl (λ n11. lined n 12 0 _ _ refl
    (λ n12. lined n 13 0 _ _ refl (λ n13. refl)))))))))))))

-- ---- both at once

-- the refusal with a number, in a line, tells both
abbrev pub Kept : (n l : ℕ) → Type 0
Kept n l = (number (in_line n l) ≡ n) × (line (in_line n l) ≡ l)

-- so it is with a number from 1 to 14 without a line
pub kept_lineless : (n : ℕ) → 1 ≤ n → n ≤ 14 → Kept n 0
kept_lineless n h k = (number_in_line n 0 h k, line_lineless n)

-- and with one from 3 to 6 in any line
pub kept_in_line : (n l : ℕ) → 3 ≤ n → n ≤ 6 → Kept n l
kept_in_line n l h k = (number_in_line n l (omega arith) (omega arith), line_in_line n l h k)

-- each refusal is the one with its number and its line
pub by_number : (r : Refusal) → in_line (number r) (line r) ≡ r
by_number ListTooLong = refl
by_number NoEmptyRow = refl
by_number (NotOfForm l) = refl
by_number (CnZero l) = refl
by_number (NotListed l) = refl
by_number (UnusedField l) = refl
by_number FillTooLong = refl
by_number BufferShort = refl
by_number BadLength = refl
by_number TooManyRows = refl
by_number NotAccepted = refl
by_number NoInstruction = refl
by_number ContextZero = refl
by_number LimitTooLow = refl
