-- The eleven numbers: one test that the checker computes over the whole table, and one law that turns it into what each entry says.
use Prim.Native.Nat.{ℕ, ◌<◌}
use mathlib.Core.Bool.{Bool, ◌&&◌}
use mathlib.Core.Path.{◌≡◌, refl}
use lib.Dec.{T, eqb, eqb→eq}
use lib.ListN.{length, get_or}
use Rattle.gas.specs.Examples.{Example, cost_at, split_at, Holds, examples}
use Rattle.gas.specs.Gas.{words, cost, split}
use Rattle.gas.proofs.GasLaws.{parts_path}
use Rattle.number.proofs.TableLaws.{every_at, and_left, and_right}

passes : Example → Bool
passes (cost_at end c) = eqb (cost (words end)) c
passes (split_at a q2 e low) = (eqb (split a).q2 q2 && eqb (split a).e e) && eqb (split a).low low

passes_holds : (x : Example) → T (passes x) → Holds x
unfolding passes
passes_holds (cost_at end c) t = eqb→eq (cost (words end)) c t
passes_holds (split_at a q2 e low) t =
    let first = and_left (eqb (split a).q2 q2 && eqb (split a).e e) (eqb (split a).low low) t in
    parts_path (split a) (record { q2 = q2; e = e; low = low })
    (eqb→eq (split a).q2 q2 (and_left (eqb (split a).q2 q2) (eqb (split a).e e) first))
    (eqb→eq (split a).e e (and_right (eqb (split a).q2 q2) (eqb (split a).e e) first))
    (eqb→eq (split a).low low (and_right (eqb (split a).q2 q2 && eqb (split a).e e) (eqb (split a).low low) t))

-- the table has eleven entries
pub eleven : length examples ≡ 11
eleven = refl

-- each of them holds
pub examples_hold : (k : ℕ) → k < length examples → Holds (get_or examples k (cost_at 0 0))
unfolding passes cost words split
examples_hold k h = passes_holds (get_or examples k (cost_at 0 0)) (every_at passes examples tt k (cost_at 0 0) h)
