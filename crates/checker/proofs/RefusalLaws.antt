-- What the checker answers to bytes that are no trace, in document 01's numbers.
use Prim.Native.Nat.{ℕ, ◌≤◌}
use mathlib.Core.List.{List}
use mathlib.Core.Logic.{⊎_elim}
use mathlib.Core.Path.{◌≡◌}
use native.Mathlib.Omega.{arith}
use Rattle.model.specs.Verdict.{refused, verdict}
use Rattle.model.proofs.VerdictLaws.{refused_number}
use Rattle.refusal.proofs.NumberLaws.{Kept, kept_lineless}
use Rattle.checker.specs.Answer.{told, numbers}

-- the number of a refusal is kept: it is 9 or 10
pub verdict_kept : (l : List ℕ) {m : ℕ} → verdict l ≡ refused m → Kept m 0
verdict_kept l {m} e =
    let some : 1 ≤ m = ⊎_elim (λ f. omega (arith, f)) (λ f. omega (arith, f)) (refused_number l m e) in
    let few : m ≤ 14 = ⊎_elim (λ f. omega (arith, f)) (λ f. omega (arith, f)) (refused_number l m e) in
    kept_lineless m some few

-- it is told, and 0 for all else
pub refused_numbers : (l : List ℕ) {m : ℕ} → verdict l ≡ refused m → numbers (told (verdict l)) ≡ record {
  refused = m;
  line = 0;
  accepted = 0;
  instructions = 0;
  oob = 0;
  empty = 0;
  row = 0;
  constraint = 0;
}
refused_numbers l e =
    let kept = verdict_kept l e in
    rw e (λ i. record {
      refused = kept.0 i;
      line = kept.1 i;
      accepted = 0;
      instructions = 0;
      oob = 0;
      empty = 0;
      row = 0;
      constraint = 0;
    })
