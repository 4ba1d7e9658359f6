-- Rows and their bytes determine each other: rows whose cells fit are read back from their bytes, and the bytes of whole rows are written back.
use Prim.Native.Nat.{ℕ, zero, suc, ◌+◌, ◌*◌, ◌/◌, ◌%◌, ◌<◌, ◌≤◌}
use mathlib.Core.List.{List, [], ◌∷◌, ◌++◌, append_assoc, append-nil}
use mathlib.Core.Path.{◌≡◌, refl, sym, ◌∙◌, ap}
use native.Mathlib.Nat.{zero-add, le_of_suc-le-suc, not-suc-le-zero}
use native.Mathlib.Omega.{arith}
use lib.ListN.{length, take, drop, replicate, length-append, length-drop, take-append-drop, replicate-append-replicate}
use lib.Seq.{take-add, take_all, split_at, take_at, drop_at, length-take-le}
use Rattle.number.specs.Cells.{encode, decode, Fit}
use Rattle.number.specs.Num.{be, AllBytes}
use Rattle.number.proofs.CellLaws.{length-encode, encode-decode, decode-encode, decode_fit}
use Rattle.number.proofs.NumLaws.{be_bytes}
use Rattle.model.specs.Columns.{Cells, columns, cells_in, widths, row_bytes, of_list, empty_row, row_at, table, rows_of, bytes_of, row_in}
use Rattle.model.proofs.TableOf.{length-table, get_or-table, table_path, table_snoc, table_of_list}

-- ---- rows that are read

-- there are as many as the bytes have whole rows
pub length_rows : (l : List ℕ) → length (rows_of l) ≡ length l / row_bytes
unfolding rows_of
length_rows l = length-table (length l / row_bytes) (row_at l)

-- each is read at its place
pub row_of_rows : (l : List ℕ) (i : ℕ) → i < length (rows_of l) → row_at l i ≡ row_in (rows_of l) i
unfolding rows_of
row_of_rows l i h = sym (get_or-table (length l / row_bytes) (row_at l) i empty_row (rw (length_rows l) at h))

-- the cells of a row are those that stand in its bytes
pub cells_row : (l : List ℕ) (i : ℕ) → cells_in columns (row_at l i) ≡ decode widths l (i * row_bytes)
unfolding row_at decode
cells_row l i = refl

-- and they fit their columns
pub row_fits : (l : List ℕ) (i : ℕ) → AllBytes l → suc i * row_bytes ≤ length l → Fit widths (cells_in columns (row_at l i))
row_fits l i b h = rw (cells_row l i) (decode_fit widths l (i * row_bytes) b (omega arith))

-- ---- the bytes of rows

-- as many for each row as its columns have
pub length_bytes : (rows : List Cells) → length (bytes_of rows) ≡ length rows * row_bytes
unfolding bytes_of
length_bytes [] = omega arith
length_bytes (x ∷ xs) = rw (length-append, length-encode, length_bytes xs) (omega arith)

-- the bytes of joined rows are joined
pub bytes_append : (xs ys : List Cells) → bytes_of (xs ++ ys) ≡ bytes_of xs ++ bytes_of ys
unfolding bytes_of
bytes_append [] ys = refl
bytes_append (x ∷ xs) ys = rw (bytes_append xs ys, append_assoc)

-- those of empty rows are zeros
pub empty_bytes : (n : ℕ) → bytes_of (replicate n empty_row) ≡ replicate (n * row_bytes) 0
unfolding bytes_of encode be
empty_bytes zero = refl
empty_bytes (suc n) =
    let more : suc n * row_bytes ≡ row_bytes + n * row_bytes = omega arith in
    rw (empty_bytes n, more) (replicate-append-replicate row_bytes (n * row_bytes) 0)

all_bytes_append : (l k : List ℕ) → AllBytes l → AllBytes k → AllBytes (l ++ k)
all_bytes_append [] k a b i h = b i h
all_bytes_append (x ∷ l) k a b zero h = a 0 (omega arith)
all_bytes_append (x ∷ l) k a b (suc i) h = all_bytes_append l k (λ j m. a (suc j) (omega arith)) b i (le_of_suc-le-suc h)

encode_bytes : (ws vs : List ℕ) → AllBytes (encode ws vs)
unfolding encode
encode_bytes [] vs = λ i h. absurd (not-suc-le-zero h)
encode_bytes (w ∷ ws) [] = all_bytes_append (be w 0) (encode ws []) (be_bytes w 0) (encode_bytes ws [])
encode_bytes (w ∷ ws) (v ∷ vs) = all_bytes_append (be w v) (encode ws vs) (be_bytes w v) (encode_bytes ws vs)

-- all of them are bytes
pub bytes_are_bytes : (rows : List Cells) → AllBytes (bytes_of rows)
unfolding bytes_of
bytes_are_bytes [] = λ i h. absurd (not-suc-le-zero h)
bytes_are_bytes (x ∷ xs) =
    all_bytes_append (encode widths (cells_in columns x)) (bytes_of xs) (encode_bytes widths (cells_in columns x)) (bytes_are_bytes xs)

-- the rows below p have the bytes below theirs
length-first : (xs : List Cells) (p : ℕ) → p ≤ length xs → length (bytes_of (take p xs)) ≡ p * row_bytes
length-first xs p h = rw (length_bytes, length-take-le p xs h)

-- ---- rows that were written are read back

-- each cell of each row fits its column
abbrev pub AllFit : List Cells → Type 0
AllFit [] = Unit
AllFit (x ∷ xs) = Fit widths (cells_in columns x) × AllFit xs

fit_at : (rows : List Cells) (i : ℕ) → AllFit rows → i < length rows → Fit widths (cells_in columns (row_in rows i))
fit_at [] i f h = absurd (not-suc-le-zero h)
fit_at (x ∷ xs) zero f h = f.0
fit_at (x ∷ xs) (suc i) f h = fit_at xs i f.1 (le_of_suc-le-suc h)

-- a row in the middle of other bytes
row_at_lem : (l k : List ℕ) (i : ℕ) (x : Cells) → length l ≡ i * row_bytes → Fit widths (cells_in columns x)
    → row_at (l ++ (encode widths (cells_in columns x) ++ k)) i ≡ x
unfolding row_at
row_at_lem l k i x e f = rw (← e) (ap of_list (decode-encode widths (cells_in columns x) l k f))

-- rows that fit, from row p on and before any other bytes, are read there
pub row_between : (l k : List ℕ) (p : ℕ) (rows : List Cells) (i : ℕ) → length l ≡ p * row_bytes → AllFit rows → i < length rows
    → row_at (l ++ (bytes_of rows ++ k)) (p + i) ≡ row_in rows i
unfolding bytes_of
row_between l k p rows i e f h =
    let x : Cells = row_in rows i in
    let first : List ℕ = bytes_of (take i rows) in
    let parts = ap bytes_of (split_at rows i empty_row h) ∙ bytes_append (take i rows) (x ∷ drop (suc i) rows) in
    let place : length (l ++ first) ≡ (p + i) * row_bytes = omega (arith, length-append l first, length-first rows i (omega arith)) in
    rw (parts, append_assoc first, append_assoc (encode widths (cells_in columns x)), ← append_assoc l first)
    (row_at_lem (l ++ first) (bytes_of (drop (suc i) rows) ++ k) (p + i) x place (fit_at rows i f h))

-- each row that fits is read back from the bytes
pub row_back : (rows : List Cells) (i : ℕ) → AllFit rows → i < length rows → row_at (bytes_of rows) i ≡ row_in rows i
row_back rows i f h = rw (append-nil, zero-add) at (row_between [] [] 0 rows i (omega arith) f h)

-- rows that fit, before any other bytes, are the first rows there
pub rows_first : (rows : List Cells) (k : List ℕ) → AllFit rows → table (length rows) (row_at (bytes_of rows ++ k)) ≡ rows
rows_first rows k f =
    table_path (length rows) (row_at (bytes_of rows ++ k)) (λ i. row_in rows i) (λ i h. rw zero-add at (row_between [] k 0 rows i (omega arith) f h))
    ∙ table_of_list rows empty_row

-- and all of them, where no other bytes are
pub rows_back : (rows : List Cells) → AllFit rows → rows_of (bytes_of rows) ≡ rows
unfolding rows_of
rows_back rows f =
    let n : length (bytes_of rows) / row_bytes ≡ length rows = omega (arith, length_bytes rows) in
    rw n (rw append-nil at (rows_first rows [] f))

-- ---- bytes that were read as rows are written back

bytes_next : (f : ℕ → Cells) (n : ℕ) → bytes_of (table (suc n) f) ≡ bytes_of (table n f) ++ encode widths (cells_in columns (f n))
unfolding bytes_of
bytes_next f n = rw (table_snoc, bytes_append, append-nil)

-- the first n rows
bytes_first : (l : List ℕ) (n : ℕ) → AllBytes l → n * row_bytes ≤ length l → bytes_of (table n (row_at l)) ≡ take (n * row_bytes) l
bytes_first l zero b h = unfold bytes_of table in refl
bytes_first l (suc n) b h =
    let e = encode-decode widths l (n * row_bytes) b (omega arith) in
    let m : suc n * row_bytes ≡ n * row_bytes + row_bytes = omega arith in
    rw (bytes_next (row_at l) n, bytes_first l n b (omega arith), cells_row l n, e) (sym (ap (λ (k : ℕ). take k l) m ∙ take-add (n * row_bytes) row_bytes l))

-- the bytes of whole rows are those of the rows read from them
pub bytes_back : (l : List ℕ) → AllBytes l → length l % row_bytes ≡ 0 → bytes_of (rows_of l) ≡ l
unfolding rows_of
bytes_back l b h = bytes_first l (length l / row_bytes) b (omega arith) ∙ take_all (length l / row_bytes * row_bytes) l (omega arith)

-- ---- a part of the rows is a part of the bytes

bytes_split : (xs : List Cells) (p : ℕ) → bytes_of xs ≡ bytes_of (take p xs) ++ bytes_of (drop p xs)
bytes_split xs p = ap bytes_of (sym (take-append-drop p xs)) ∙ bytes_append (take p xs) (drop p xs)

-- the first m rows
pub bytes_take : (xs : List Cells) (m : ℕ) → m ≤ length xs → take (m * row_bytes) (bytes_of xs) ≡ bytes_of (take m xs)
bytes_take xs m h = rw (bytes_split xs m) (take_at (bytes_of (take m xs)) (bytes_of (drop m xs)) (m * row_bytes) (length-first xs m h))

bytes_drop : (xs : List Cells) (p : ℕ) → p ≤ length xs → drop (p * row_bytes) (bytes_of xs) ≡ bytes_of (drop p xs)
bytes_drop xs p h = rw (bytes_split xs p) (drop_at (bytes_of (take p xs)) (bytes_of (drop p xs)) (p * row_bytes) (length-first xs p h))

-- m rows from row p on
pub bytes_part : (xs : List Cells) (p m : ℕ) → p + m ≤ length xs
    → take (m * row_bytes) (drop (p * row_bytes) (bytes_of xs)) ≡ bytes_of (take m (drop p xs))
bytes_part xs p m h = rw (bytes_drop xs p (omega arith)) (bytes_take (drop p xs) m (omega (arith, length-drop p xs)))
