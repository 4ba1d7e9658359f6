-- Cells and their bytes determine each other: once over the list of widths.
use Prim.Native.Nat.{ℕ, ◌+◌, ◌≤◌}
use mathlib.Core.List.{List, [], ◌∷◌, ◌++◌, append_assoc}
use mathlib.Core.Path.{◌≡◌, refl}
use native.Mathlib.Omega.{arith}
use lib.ListN.{length, take, drop, length-append}
use lib.Seq.{take-add, drop-drop}
use Rattle.number.specs.Cells.{total, encode, decode, Fit}
use Rattle.number.specs.Num.{num, be, AllBytes}
use Rattle.number.proofs.NumLaws.{length-be, num_at, be-num, num-lt}

-- cells take the bytes of their widths
pub length-encode : (ws vs : List ℕ) → length (encode ws vs) ≡ total ws
unfolding encode
length-encode [] vs = refl
length-encode (w ∷ ws) [] = rw (length-append, length-be, length-encode ws [])
length-encode (w ∷ ws) (v ∷ vs) = rw (length-append, length-be, length-encode ws vs)

-- the bytes that were read as cells are written back
pub encode-decode : (ws l : List ℕ) (p : ℕ) → AllBytes l → p + total ws ≤ length l → encode ws (decode ws l p) ≡ take (total ws) (drop p l)
unfolding encode decode
encode-decode [] l p bs h = refl
encode-decode (w ∷ ws) l p bs h =
    let ih : encode ws (decode ws l (p + w)) ≡ take (total ws) (drop (p + w) l) = encode-decode ws l (p + w) bs (omega arith) in
    let b : be w (num l p w) ≡ take w (drop p l) = be-num l p w bs (omega arith) in
    let s : take (w + total ws) (drop p l) ≡ take w (drop p l) ++ take (total ws) (drop w (drop p l)) = take-add w (total ws) (drop p l) in
    rw (b, ih, s, drop-drop)

-- the cells that were written are read back
pub decode-encode : (ws vs xs ys : List ℕ) → Fit ws vs → decode ws (xs ++ (encode ws vs ++ ys)) (length xs) ≡ vs
unfolding encode decode Fit
decode-encode [] [] xs ys f = refl
decode-encode [] (v ∷ vs) xs ys f = absurd f
decode-encode (w ∷ ws) [] xs ys f = absurd f
decode-encode (w ∷ ws) (v ∷ vs) xs ys f =
    let l : length (xs ++ be w v) ≡ length xs + w = rw (length-append, length-be) in
    let n : num (xs ++ (be w v ++ (encode ws vs ++ ys))) (length xs) w ≡ v = num_at xs (encode ws vs ++ ys) w v f.0 in
    let ih : decode ws ((xs ++ be w v) ++ (encode ws vs ++ ys)) (length (xs ++ be w v)) ≡ vs = decode-encode ws vs (xs ++ be w v) ys f.1 in
    let there : decode ws (xs ++ (be w v ++ (encode ws vs ++ ys))) (length xs + w) ≡ vs = rw (append_assoc, l) at ih in
    rw (append_assoc (be w v), n, there)

-- what was read fits
pub decode_fit : (ws l : List ℕ) (p : ℕ) → AllBytes l → p + total ws ≤ length l → Fit ws (decode ws l p)
unfolding decode Fit
decode_fit [] l p bs h = tt
decode_fit (w ∷ ws) l p bs h = (num-lt l p w bs (omega arith), decode_fit ws l (p + w) bs (omega arith))
