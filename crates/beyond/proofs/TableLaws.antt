-- The cycle of a claim as a table of its rows, in bounds and out of bounds, and rows of a table as they are written one after the other.
use Prim.Native.Nat.{ℕ, suc, ◌+◌, ◌*◌}
use mathlib.Core.Bool.{Bool}
use mathlib.Core.List.{List}
use mathlib.Core.Path.{◌≡◌, ◌∙◌, ap}
use lib.Seq.{sets}
use Rattle.model.specs.Columns.{Cells, row_bytes, table, bytes_of}
use Rattle.model.specs.Constraints.{in_last, out_last}
use Rattle.model.specs.Cycles.{Claim}
use Rattle.model.specs.State.{State}
use Rattle.model.specs.Tests.{pick}
use Rattle.model.specs.Trace.{in_bounds, last_of, row_of, cycle_of}
use Rattle.model.proofs.TableOf.{length-table, table_snoc}
use Rattle.row.proofs.RowLaws.{written, write_next}
use Rattle.compare.proofs.SameLaws.{row_by}

-- the cycle of a claim is the table of its in-bounds rows or of its out-of-bounds rows, by whether it is in bounds
pub cycle_of_lem : (stamp : ℕ) (s : State) (c : Claim) (b : Bool) → in_bounds c ≡ b → cycle_of stamp s c ≡ table (suc (pick b in_last out_last)) (row_by stamp s c b)
unfolding cycle_of last_of row_of
cycle_of_lem stamp s c b e = ap {B = List Cells} (λ (t : Bool). table (suc (pick t in_last out_last)) (row_by stamp s c t)) e

-- i rows of a table, written from row p on, and then the next of them
pub rows_next : {m k : List ℕ} {x : Cells} (l : List ℕ) (p i : ℕ) (f : ℕ → Cells) → m ≡ sets l (p * row_bytes) (bytes_of (table i f))
    → x ≡ f i → k ≡ written m (p + i) x → k ≡ sets l (p * row_bytes) (bytes_of (table (suc i) f))
rows_next {m} l p i f e h g =
    rw (table_snoc i f) (write_next l p i (table i f) (f i) (length-table i f) e (g ∙ ap (written m (p + i)) h))
