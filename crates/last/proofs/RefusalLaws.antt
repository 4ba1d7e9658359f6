-- What the last-state question answers where it is refused, in document 01's numbers.
use Prim.Native.Nat.{ℕ}
use mathlib.Core.Bool.{Bool, true, false}
use mathlib.Core.List.{List}
use mathlib.Core.Path.{◌≡◌}
use native.Mathlib.Omega.{arith}
use lib.Dec.{eqb, ltb}
use Rattle.number.proofs.TestLaws.{clash}
use Rattle.model.specs.Columns.{rows_of}
use Rattle.model.specs.Cycles.{Looked, last_state}
use Rattle.model.specs.State.{Context}
use Rattle.model.specs.Tests.{pick}
use Rattle.refusal.specs.Refusals.{context_zero, limit_too_low}
use Rattle.refusal.proofs.NumberLaws.{Kept, kept_lineless}
use Rattle.trace.specs.Asked.{given, refused}
use Rattle.trace.proofs.RefusalLaws.{alike, asked_kept}
use Rattle.last.specs.Last.{within_limit, last_of, told_last, last_numbers}

last_kept : (l : List ℕ) (x : Context) (limit : ℕ) {n : ℕ} → last_of l x limit ≡ refused n → Kept n 0
unfolding last_of within_limit
last_kept l x limit e = asked_kept l _ (λ m. by m (eqb x.cn 0) (ltb limit (last_state (rows_of l) x).cycles)) e
  where
    by : (m : ℕ) (a b : Bool) → pick a (refused context_zero) (pick b (refused limit_too_low) (given (last_state (rows_of l) x))) ≡ refused m → Kept m 0
    by m true b h = alike {A = Looked} (kept_lineless context_zero (omega arith) (omega arith)) h
    by m false true h = alike {A = Looked} (kept_lineless limit_too_low (omega arith) (omega arith)) h
    by m false false h = clash cc

-- the number of a refusal is told, and 0 for all else
pub refused_numbers : (l : List ℕ) (x : Context) (limit : ℕ) {n : ℕ} → last_of l x limit ≡ refused n
    → last_numbers (told_last (last_of l x limit)) ≡ record { refused = n; line = 0; mem = 0; cost = 0; looked = 0 }
refused_numbers l x limit e =
    let kept = last_kept l x limit e in
    rw e (λ i. record { refused = kept.0 i; line = kept.1 i; mem = 0; cost = 0; looked = 0 })
