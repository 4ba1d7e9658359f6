-- What opening a walker answers where it is refused, in document 01's numbers.
use Prim.Native.Nat.{ℕ}
use mathlib.Core.List.{List}
use mathlib.Core.Path.{◌≡◌}
use Rattle.number.proofs.TestLaws.{clash}
use Rattle.refusal.proofs.NumberLaws.{Kept}
use Rattle.trace.specs.Asked.{refused}
use Rattle.trace.proofs.RefusalLaws.{asked_kept}
use Rattle.walker.specs.Walk.{start_of, told_start, start_numbers}

start_kept : (l : List ℕ) {n : ℕ} → start_of l ≡ refused n → Kept n 0
unfolding start_of
start_kept l e = asked_kept l _ (λ m h. clash cc) e

-- the number of a refusal is told, and 0 for all else
pub refused_numbers : (l : List ℕ) {n : ℕ} → start_of l ≡ refused n
    → start_numbers (told_start (start_of l)) ≡ record { refused = n; line = 0; next = 0 }
refused_numbers l e =
    let kept = start_kept l e in
    rw e (λ i. record { refused = kept.0 i; line = kept.1 i; next = 0 })
