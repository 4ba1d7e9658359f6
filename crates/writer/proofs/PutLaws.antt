-- What `put_row` leaves: the stores of its parts are one run of the row's bytes; reading gives what was put, and putting what was read changes nothing.
use Prim.Native.Nat.{ℕ, ◌+◌, ◌*◌, ◌≤◌}
use mathlib.Core.List.{List, [], ◌∷◌, map}
use mathlib.Core.Path.{◌≡◌, refl, ◌∙◌, ap}
use native.Mathlib.Nat.{add_assoc, add-zero}
use native.Mathlib.Omega.{arith}
use lib.ListN.{length}
use lib.Seq.{sets}
use Rattle.number.specs.Cells.{encode, Fit}
use Rattle.number.specs.Num.{be, AllBytes}
use Rattle.number.proofs.StoreLaws.{sets_then}
use Rattle.model.specs.Columns.{Cells, Column, columns, cells_in, widths, row_bytes, row_at}
use Rattle.row.specs.Plain.{plain}
use Rattle.row.specs.declared.cells.Row.{Row}
use Rattle.row.proofs.RowLaws.{written, read_written, write_read}
use Rattle.writer.specs.Stores.{stores_from, part_stored}

-- stores one after the other are one run of the cells' bytes
stores_join : (cs : List Column) (x : Cells) (l : List ℕ) (p o : ℕ)
    → stores_from cs x l p o ≡ sets l (p + o) (encode (map (λ (c : Column). c.width) cs) (cells_in cs x))
unfolding encode
stores_join [] x l p o = refl
stores_join (c ∷ cs) x l p o =
    stores_join cs x (sets l (p + o) (be c.width (c.cell x))) p (o + c.width)
    ∙ rw (← add_assoc) (sets_then l (p + o) c.width (c.cell x) (encode (map (λ (d : Column). d.width) cs) (cells_in cs x)) refl)

-- the stores of three parts are one run of the row's bytes
pub row_of_stores : {m k n : List ℕ} (x : Cells) (l : List ℕ) (i : ℕ)
    → m ≡ part_stored 0 9 x l (i * row_bytes) → k ≡ part_stored 9 10 x m (i * row_bytes) → n ≡ part_stored 19 11 x k (i * row_bytes)
    → n ≡ sets l (i * row_bytes) (encode widths (cells_in columns x))
row_of_stores {m} {k} {n} x l i a b c =
    let here : n ≡ stores_from columns x l (i * row_bytes) 0 = cc in
    here ∙ stores_join columns x l (i * row_bytes) 0 ∙ rw add-zero

-- and so are those of the two parts in which the code stores a row
pub row_of_parts_stored : {m k : List ℕ} (x : Cells) (l : List ℕ) (i : ℕ)
    → m ≡ part_stored 0 15 x l (i * row_bytes) → k ≡ part_stored 15 15 x m (i * row_bytes)
    → k ≡ sets l (i * row_bytes) (encode widths (cells_in columns x))
row_of_parts_stored {m} {k} x l i a b =
    let p = i * row_bytes in
    let here : k ≡ part_stored 19 11 x (part_stored 9 10 x (part_stored 0 9 x l p) p) p = b ∙ ap (λ (n : List ℕ). part_stored 15 15 x n p) a in
    row_of_stores x l i refl refl here

-- ---- the code's row: what `put_row` and `read_row` promise, together

-- what is read where x was put is x
pub put_read : {m : List ℕ} (l : List ℕ) (i : ℕ) (x r : Row) → Fit widths (cells_in columns (plain x)) → (i + 1) * row_bytes ≤ length l
    → m ≡ written l i (plain x) → plain r ≡ row_at m i → plain r ≡ plain x
put_read l i x r f h e q = rw e at q ∙ read_written l i (plain x) f (omega arith)

-- putting what was read leaves the bytes
pub read_put : {m : List ℕ} (l : List ℕ) (i : ℕ) (x : Row) → AllBytes l → (i + 1) * row_bytes ≤ length l
    → plain x ≡ row_at l i → m ≡ written l i (plain x) → m ≡ l
read_put l i x b h q e = e ∙ ap (written l i) q ∙ write_read l i b (omega arith)
