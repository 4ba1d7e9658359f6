-- A row that is written and a row that is read: reading gives what was written, writing what was read changes nothing, and the other rows stay.
use Prim.Native.Nat.{ℕ, zero, suc, ◌+◌, ◌-◌, ◌*◌, ◌/◌, ◌<◌, ◌≤◌}
use mathlib.Core.List.{List, [], ◌∷◌, ◌++◌, append_assoc, append-nil}
use mathlib.Core.Logic.{◌≢◌}
use mathlib.Core.Path.{◌≡◌, refl, ◌∙◌, ap}
use native.Mathlib.Nat.{add_assoc, add-zero, zero-add}
use native.Mathlib.Omega.{arith}
use lib.ListN.{length, get_or, set, take, drop, length-drop, take-append-drop}
use lib.Seq.{get_or-take, get_or-drop, sets, sets-eq, length-sets, length-take-le, get_or-set_other, drop-drop}
use Rattle.number.specs.Cells.{total, encode, decode, Fit}
use Rattle.number.specs.Num.{num, AllBytes}
use Rattle.number.proofs.CellLaws.{length-encode, encode-decode}
use Rattle.number.proofs.StoreLaws.{sets-append}
use Rattle.model.specs.Columns.{Cells, columns, cells_in, widths, row_bytes, of_list, row_at, bytes_of, row_in}
use Rattle.model.proofs.RowBytes.{AllFit, cells_row, length_bytes, bytes_append, row_between}

-- l, once x is written as row i
abbrev pub written : List ℕ → ℕ → Cells → List ℕ
written l i x = sets l (i * row_bytes) (encode widths (cells_in columns x))

-- a run of n stores, as the parts of the list
sets-parts : (l : List ℕ) (p n : ℕ) (vs : List ℕ) → length vs ≡ n → p + n ≤ length l → sets l p vs ≡ take p l ++ (vs ++ drop (p + n) l)
sets-parts l p n vs e h = sets-eq vs l p (omega arith) ∙ rw (append_assoc, e)

-- rows that fit, once they are written from row p on, are read there
pub read_rows : (l : List ℕ) (p : ℕ) (xs : List Cells) → AllFit xs → (p + length xs) * row_bytes ≤ length l
    → (j : ℕ) → j < length xs → row_at (sets l (p * row_bytes) (bytes_of xs)) (p + j) ≡ row_in xs j
read_rows l p xs f h j k =
    let s = sets-parts l (p * row_bytes) (length xs * row_bytes) (bytes_of xs) (length_bytes xs) (omega arith) in
    rw s (row_between (take (p * row_bytes) l) _ p xs j (length-take-le (p * row_bytes) l (omega arith)) f k)

-- the row that was written is read back
pub read_written : (l : List ℕ) (i : ℕ) (x : Cells) → Fit widths (cells_in columns x) → suc i * row_bytes ≤ length l → row_at (written l i x) i ≡ x
unfolding bytes_of
read_written l i x f h = rw (append-nil, add-zero) at (read_rows l i (x ∷ []) (f, tt) (omega arith) 0 (omega arith))

-- a part of a list, stored where it stands, changes nothing
sets_same : (l : List ℕ) (p n : ℕ) → p + n ≤ length l → sets l p (take n (drop p l)) ≡ l
sets_same l p n h =
    let e = length-take-le n (drop p l) (omega (arith, length-drop p l)) in
    sets-parts l p n (take n (drop p l)) e h ∙ rw (← drop-drop n p l, take-append-drop, take-append-drop)

-- the row that was read is written back
pub write_read : (l : List ℕ) (i : ℕ) → AllBytes l → suc i * row_bytes ≤ length l → written l i (row_at l i) ≡ l
write_read l i b h =
    rw (cells_row l i, encode-decode widths l (i * row_bytes) b (omega arith)) (sets_same l (i * row_bytes) row_bytes (omega arith))

-- ---- rows one after the other

-- rows from row i on, and others behind them: they are rows from row i on
pub write_more : {m k : List ℕ} (l : List ℕ) (i n : ℕ) (xs ys : List Cells) → length xs ≡ n → m ≡ sets l (i * row_bytes) (bytes_of xs)
    → k ≡ sets m ((i + n) * row_bytes) (bytes_of ys) → k ≡ sets l (i * row_bytes) (bytes_of (xs ++ ys))
write_more l i n xs ys e f g =
    let there : length (bytes_of xs) ≡ n * row_bytes = length_bytes xs ∙ ap (λ (j : ℕ). j * row_bytes) e in
    let place : (i + n) * row_bytes ≡ i * row_bytes + length (bytes_of xs) = omega (arith, there) in
    g ∙ rw (place, f, bytes_append) (sets-append l (i * row_bytes) (bytes_of xs) (bytes_of ys))

-- and one row behind them
pub write_next : {m k : List ℕ} (l : List ℕ) (i n : ℕ) (xs : List Cells) (x : Cells) → length xs ≡ n
    → m ≡ sets l (i * row_bytes) (bytes_of xs) → k ≡ written m (i + n) x → k ≡ sets l (i * row_bytes) (bytes_of (xs ++ (x ∷ [])))
unfolding bytes_of
write_next l i n xs x e f g = write_more l i n xs (x ∷ []) e f (g ∙ rw append-nil)

-- ---- the other bytes

-- there are as many bytes as before
pub length-stays : (l : List ℕ) (i : ℕ) (x : Cells) → length (written l i x) ≡ length l
length-stays l i x = length-sets l (i * row_bytes) (encode widths (cells_in columns x))

-- a run of stores elsewhere leaves a byte
get_or_sets_apart : (l : List ℕ) (p k : ℕ) (vs : List ℕ) → ((j : ℕ) → j < length vs → k ≢ p + j) → get_or (sets l p vs) k 0 ≡ get_or l k 0
get_or_sets_apart l p k [] h = refl
get_or_sets_apart l p k (v ∷ vs) h =
    get_or_sets_apart (set l p v) (suc p) k vs (λ j m e. h (suc j) (omega arith) (omega arith))
    ∙ get_or-set_other l p k v 0 (λ e. h 0 (omega arith) (omega arith))

-- a byte that stands in no cell of row i is as before
pub bytes_stay : (l : List ℕ) (i k : ℕ) (x : Cells) → k / row_bytes ≢ i → get_or (written l i x) k 0 ≡ get_or l k 0
bytes_stay l i k x n =
    let e : length (encode widths (cells_in columns x)) ≡ row_bytes = length-encode widths (cells_in columns x) in
    get_or_sets_apart l (i * row_bytes) k (encode widths (cells_in columns x)) (λ j m q. n (omega arith))

-- the w bytes of l from p on are those of m from q on
abbrev pub Agree : (l : List ℕ) (p : ℕ) (m : List ℕ) (q w : ℕ) → Type 0
Agree l p m q w = (k : ℕ) → k < w → get_or l (p + k) 0 ≡ get_or m (q + k) 0

pub num_agree : (l m : List ℕ) (p q w : ℕ) → Agree l p m q w → num l p w ≡ num m q w
unfolding num
num_agree l m p q zero a = refl
num_agree l m p q (suc w) a = rw (num_agree l m p q w (λ k h. a k (omega arith)), a w (omega arith))

decode_agree : (ws l m : List ℕ) (p q : ℕ) → Agree l p m q (total ws) → decode ws l p ≡ decode ws m q
unfolding decode
decode_agree [] l m p q a = refl
decode_agree (w ∷ ws) l m p q a =
    let behind : Agree l (p + w) m (q + w) (total ws) = λ k h. rw (add_assoc, add_assoc) (a (w + k) (omega arith)) in
    rw (num_agree l m p q w (λ k h. a k (omega arith)), decode_agree ws l m (p + w) (q + w) behind)

-- rows of the same bytes are the same
pub row_agree : (l m : List ℕ) (i j : ℕ) → Agree l (i * row_bytes) m (j * row_bytes) row_bytes → row_at l i ≡ row_at m j
unfolding row_at
row_agree l m i j a = ap of_list (decode_agree widths l m (i * row_bytes) (j * row_bytes) a)

-- every row but the one that was written is read as before
pub others_stay : (l : List ℕ) (i j : ℕ) (x : Cells) → j ≢ i → row_at (written l i x) j ≡ row_at l j
others_stay l i j x n =
    row_agree (written l i x) l j j (λ k h. bytes_stay l i (j * row_bytes + k) x (λ e. n (omega arith)))

-- the bytes of row i, cut out of the others, are that row
pub row_cut : (l : List ℕ) (i q : ℕ) → q ≡ i * row_bytes + row_bytes
    → row_at (take (q - i * row_bytes) (drop (i * row_bytes) l)) 0 ≡ row_at l i
row_cut l i q e =
    let part = take (q - i * row_bytes) (drop (i * row_bytes) l) in
    row_agree part l 0 i
    (λ k h.
    ap (λ (j : ℕ). get_or part j 0) (zero-add k) ∙ get_or-take (q - i * row_bytes) (drop (i * row_bytes) l) k 0 (omega arith)
    ∙ get_or-drop (i * row_bytes) l k 0)
