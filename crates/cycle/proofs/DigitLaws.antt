-- Digits over the rows of a cycle, from its last row on.
use Prim.Native.Nat.{ℕ, zero, suc, ◌-◌, ◌≤◌}
use mathlib.Core.Path.{◌≡◌, refl}
use native.Mathlib.Nat.{div-one}
use native.Mathlib.Omega.{arith}
use Rattle.number.specs.Sums.{prefix_at}
use Rattle.model.specs.Constraints.{in_last}
use Rattle.model.specs.Trace.{in_rows}

-- the digits up to the last spell the number
pub prefix_past : (m v i : ℕ) → m ≤ i → prefix_at m v i ≡ v
unfolding prefix_at
prefix_past m v i h =
    let e : m - i ≡ 0 = omega arith in
    rw (e, div-one)

-- of what stands in three rows, the last
pub in_rows_past : (a b c i : ℕ) → in_last ≤ i → in_rows a b c i ≡ c
in_rows_past a b c zero h = absurd (omega arith)
in_rows_past a b c (suc zero) h = absurd (omega arith)
in_rows_past a b c (suc (suc i)) h = refl
