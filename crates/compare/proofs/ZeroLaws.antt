-- Bytes that are 0, and cells that are.
use Prim.Native.Nat.{ℕ, ◌+◌, ◌*◌, ◌^◌, ◌<◌}
use mathlib.Core.Bool.{Bool, true, ◌&&◌}
use mathlib.Core.List.{List, [], ◌∷◌, ◌++◌}
use mathlib.Core.Logic.{⊎_elim}
use mathlib.Core.Path.{◌≡◌, refl, sym, ◌∙◌, ap}
use native.Mathlib.Nat.{zero-add, zero-mul, one-le-pow, one-mul, mul-le-mul_right, eq-zero-or-pos}
use native.Mathlib.Numerals.{add-one}
use native.Mathlib.Omega.{arith}
use borrow.Author.Tests.{eq-eqb, eqb-true}
use lib.Dec.{eqb}
use lib.ListN.{length, get_or, get_or-append, length-append}
use lib.Seq.{get_or-append_seam}
use Rattle.number.specs.Cells.{total, decode}
use Rattle.number.specs.Num.{num}
use Rattle.number.proofs.NumLaws.{num-add}
use Rattle.number.proofs.TestLaws.{same_test, both, both_intro}
use Rattle.model.specs.Columns.{Cells, columns, cells_in, widths, row_bytes, of_list, empty_row, row_at}
use Rattle.model.specs.Tests.{zeros}
use Rattle.model.proofs.TestFacts.{zeros_are}
use Rattle.model.proofs.RowBytes.{cells_row}
use Rattle.row.proofs.RowLaws.{num_agree}

-- a number in two parts is 0 where both parts are
parts-zero : (k x y : ℕ) → 0 < k → eqb (x * k + y) 0 ≡ (eqb x 0 && eqb y 0)
parts-zero k x y h = same_test (eqb (x * k + y) 0) (eqb x 0 && eqb y 0) there back
  where
    there : eqb (x * k + y) 0 ≡ true → (eqb x 0 && eqb y 0) ≡ true
    there e =
        let n : x * k + y ≡ 0 = eqb-true (x * k + y) 0 e in
        let first : x ≡ 0 = ⊎_elim (λ z. z) (λ l. absurd (omega (arith, n, mul-le-mul_right k l, one-mul k))) (eq-zero-or-pos x) in
        both_intro (eqb x 0) (eqb y 0) (eq-eqb x 0 first) (eq-eqb y 0 (omega (arith, n)))

    back : (eqb x 0 && eqb y 0) ≡ true → eqb (x * k + y) 0 ≡ true
    back e =
        let t = both (eqb x 0) (eqb y 0) e in
        eq-eqb (x * k + y) 0 (rw (eqb-true x 0 t.0, eqb-true y 0 t.1, zero-mul))

-- no byte yet, and one byte more
pub zero-none : (l : List ℕ) (p : ℕ) → true ≡ eqb (num l p 0) 0
unfolding num
zero-none l p = refl

pub zero_next : (l : List ℕ) (p i : ℕ) (so_far : Bool) → so_far ≡ eqb (num l p i) 0 → (so_far && eqb (get_or l (p + i) 0) 0) ≡ eqb (num l p (i + 1)) 0
unfolding num
zero_next l p i so_far e = rw (add-one i, e) (sym (parts-zero 256 (num l p i) (get_or l (p + i) 0) (omega arith)))

-- the same of all bytes of a list and one behind them
pub zero_behind : (l : List ℕ) (x : ℕ) (so_far : Bool) → so_far ≡ eqb (num l 0 (length l)) 0
    → (so_far && eqb x 0) ≡ eqb (num (l ++ (x ∷ [])) 0 (length (l ++ (x ∷ [])))) 0
zero_behind l x so_far e =
    let more = l ++ (x ∷ []) in
    let before : num more 0 (length l) ≡ num l 0 (length l)
    = num_agree more l 0 0 (length l) (λ k h. get_or-append l (x ∷ []) 0 (0 + k) (omega arith)) in
    let next = zero_next more 0 (length l) so_far (rw before e) in
    rw (length-append) (rw (zero-add, get_or-append_seam l x [] 0) at next)

-- cells one after the other are 0 where the bytes of all of them are
cells_zero : (ws l : List ℕ) (p : ℕ) → eqb (num l p (total ws)) 0 ≡ zeros (decode ws l p)
unfolding num decode
cells_zero [] l p = refl
cells_zero (w ∷ ws) l p =
    let parts = parts-zero (256 ^ total ws) (num l p w) (num l (p + w) (total ws)) (one-le-pow (total ws) 256 (omega arith)) in
    ap (λ (n : ℕ). eqb n 0) (num-add l p w (total ws)) ∙ parts ∙ ap (λ (b : Bool). eqb (num l p w) 0 && b) (cells_zero ws l (p + w))

-- a row is empty where its bytes are 0
pub row_zero : (l : List ℕ) (i : ℕ) → eqb (num l (i * row_bytes) row_bytes) 0 ≡ zeros (cells_in columns (row_at l i))
row_zero l i = cells_zero widths l (i * row_bytes) ∙ ap zeros (sym (cells_row l i))

-- a row whose every cell is 0 is the empty row
pub zeros_empty : (x : Cells) → zeros (cells_in columns x) ≡ true → x ≡ empty_row
zeros_empty x h = ap of_list (zeros_are (cells_in columns x) h)
