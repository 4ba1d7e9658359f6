-- Laws of big-endian numbers, each once over the width: reading and writing invert each other, a number of w bytes is below
-- 256 ^ w, and a number of v + w bytes is joined from one of v bytes and one of w.
use Prim.Native.Nat.{ℕ, zero, suc, ◌+◌, ◌*◌, ◌/◌, ◌%◌, ◌^◌, ◌≤◌, ◌<◌}
use mathlib.Core.List.{List, [], ◌∷◌, ◌++◌, append_assoc, append-nil}
use mathlib.Core.Logic.{⊎_elim}
use mathlib.Core.Path.{◌≡◌, refl, sym, ◌∙◌, ap}
use native.Mathlib.Nat.{eq-or-lt_of_le, div-add-mod', mod-lt, mod-eq_of_lt, pow-suc, add-zero, add-suc, add_assoc, zero-add, one-le-pow, mod-one, mul_assoc}
use native.Mathlib.Omega.{arith}
use lib.Arith.{mod-mul}
use lib.ListN.{length, take, drop, get_or, length-append, length-drop, get_or-append}
use lib.Seq.{take-suc, get_or-drop, get_or_at, get_or-append-add}
use Rattle.number.specs.Num.{num, be, AllBytes}

-- a number written in w bytes has w bytes
pub length-be : (w v : ℕ) → length (be w v) ≡ w
unfolding be
length-be zero v = refl
length-be (suc w) v = rw (length-append, length-be w (v / 256)) (omega arith)

-- a number is read from the list that holds all of its bytes, whatever stands behind
num-append : (xs ys : List ℕ) (p w : ℕ) → p + w ≤ length xs → num (xs ++ ys) p w ≡ num xs p w
unfolding num
num-append xs ys p zero h = refl
num-append xs ys p (suc w) h =
    let ih : num (xs ++ ys) p w ≡ num xs p w = num-append xs ys p w (omega arith) in
    let b : get_or (xs ++ ys) (p + w) 0 ≡ get_or xs (p + w) 0 = get_or-append xs ys 0 (p + w) (omega arith) in
    cc

-- and whatever stands before
num_shift : (xs ys : List ℕ) (p w : ℕ) → num (xs ++ ys) (length xs + p) w ≡ num ys p w
unfolding num
num_shift xs ys p zero = refl
num_shift xs ys p (suc w) =
    let ih : num (xs ++ ys) (length xs + p) w ≡ num ys p w = num_shift xs ys p w in
    let b : get_or (xs ++ ys) (length xs + (p + w)) 0 ≡ get_or ys (p + w) 0 = get_or-append-add xs ys (p + w) 0 in
    simp (ih, add_assoc, b)

-- ---- reading what was written

-- a number written in w bytes is read back, but for what has no room
pub num-be : (w v : ℕ) → num (be w v) 0 w ≡ v % 256 ^ w
unfolding num be
num-be zero v = sym (mod-one v)
num-be (suc w) v =
    let l : length (be w (v / 256)) ≡ w = length-be w (v / 256) in
    let ih : num (be w (v / 256)) 0 w ≡ v / 256 % 256 ^ w = num-be w (v / 256) in
    let n : num (be w (v / 256) ++ (v % 256 ∷ [])) 0 w ≡ num (be w (v / 256)) 0 w = num-append (be w (v / 256)) (v % 256 ∷ []) 0 w (omega arith) in
    let b : get_or (be w (v / 256) ++ (v % 256 ∷ [])) w 0 ≡ v % 256 = get_or_at (be w (v / 256)) (v % 256) [] 0 w l in
    let q : 0 < 256 ^ w = one-le-pow w 256 (omega arith) in
    let r : 0 < 256 = omega arith in
    rw (zero-add, n, b, ih, pow-suc, mod-mul v)

-- the same in the middle of other bytes
pub num_at : (xs ys : List ℕ) (w v : ℕ) → v < 256 ^ w → num (xs ++ (be w v ++ ys)) (length xs) w ≡ v
num_at xs ys w v h =
    let s : num (xs ++ (be w v ++ ys)) (length xs + 0) w ≡ num (be w v ++ ys) 0 w = num_shift xs (be w v ++ ys) 0 w in
    let a : num (be w v ++ ys) 0 w ≡ num (be w v) 0 w = num-append (be w v) ys 0 w (omega (arith, length-be w v)) in
    let b : num (be w v) 0 w ≡ v = num-be w v ∙ mod-eq_of_lt h in
    let z : length xs + 0 ≡ length xs = add-zero (length xs) in
    cc

-- ---- writing what was read

-- bytes read as a number and written again are the bytes
pub be-num : (l : List ℕ) (p w : ℕ) → AllBytes l → p + w ≤ length l → be w (num l p w) ≡ take w (drop p l)
unfolding num be
be-num l p zero bs h = refl
be-num l p (suc w) bs h =
    let b : get_or l (p + w) 0 < 256 = bs (p + w) (omega arith) in
    let hi : (num l p w * 256 + get_or l (p + w) 0) / 256 ≡ num l p w = omega arith in
    let lo : (num l p w * 256 + get_or l (p + w) 0) % 256 ≡ get_or l (p + w) 0 = omega arith in
    let ih : be w (num l p w) ≡ take w (drop p l) = be-num l p w bs (omega arith) in
    let s : take (suc w) (drop p l) ≡ take w (drop p l) ++ (get_or (drop p l) w 0 ∷ []) = take-suc (drop p l) w 0 (simp length-drop (omega arith)) in
    let g : get_or (drop p l) w 0 ≡ get_or l (p + w) 0 = get_or-drop p l w 0 in
    rw (hi, lo, ih, s, g)

-- equal numbers of one width are equal bytes
pub num_injective : (l k : List ℕ) (p q w : ℕ) → AllBytes l → AllBytes k → p + w ≤ length l → q + w ≤ length k
    → num l p w ≡ num k q w → take w (drop p l) ≡ take w (drop q k)
num_injective l k p q w bl bk hl hk e = sym (be-num l p w bl hl) ∙ ap (be w) e ∙ be-num k q w bk hk

-- a number of w bytes is below 256^w
pub num-lt : (l : List ℕ) (p w : ℕ) → AllBytes l → p + w ≤ length l → num l p w < 256 ^ w
unfolding num
num-lt l p zero bs h = omega arith
num-lt l p (suc w) bs h = omega (arith, num-lt l p w bs (omega arith), bs (p + w) (omega arith))

-- what is written are bytes
pub be_bytes : (w v : ℕ) → AllBytes (be w v)
unfolding be
be_bytes zero v i h = omega arith
be_bytes (suc w) v i h =
    let l : length (be w (v / 256)) ≡ w = length-be w (v / 256) in
    let k : i ≤ w = omega (arith, length-append (be w (v / 256)) (v % 256 ∷ [])) in
    ⊎_elim
    (λ e. rw (get_or_at (be w (v / 256)) (v % 256) [] 0 i (omega arith)) (omega arith))
    (λ m. rw (get_or-append (be w (v / 256)) (v % 256 ∷ []) 0 i (omega arith)) (be_bytes w (v / 256) i (omega arith)))
    (eq-or-lt_of_le k)

-- ---- a number in two parts

-- a number of v + w bytes is joined from one of v and one of w
pub num-add : (l : List ℕ) (p v w : ℕ) → num l p (v + w) ≡ num l p v * 256 ^ w + num l (p + v) w
unfolding num
num-add l p v zero = rw (add-zero v) (omega arith)
num-add l p v (suc w) =
    let ih : num l p (v + w) ≡ num l p v * 256 ^ w + num l (p + v) w = num-add l p v w in
    let m : num l p v * 256 ^ w * 256 ≡ num l p v * (256 ^ w * 256) = mul_assoc (num l p v) (256 ^ w) 256 in
    rw (add-suc, ih, pow-suc, add_assoc) (omega arith)

-- and written as the two
pub be-add : (v w x y : ℕ) → y < 256 ^ w → be (v + w) (x * 256 ^ w + y) ≡ be v x ++ be w y
unfolding be
be-add v zero x y h =
    let z : x * 256 ^ 0 + y ≡ x = omega arith in
    rw (add-zero, z, append-nil)
be-add v (suc w) x y h =
    let m : x * (256 ^ w * 256) ≡ x * 256 ^ w * 256 = sym (mul_assoc x (256 ^ w) 256) in
    let p : 256 ^ suc w ≡ 256 ^ w * 256 = pow-suc 256 w in
    let q : (x * 256 ^ suc w + y) / 256 ≡ x * 256 ^ w + y / 256 = rw (p, m) (omega arith) in
    let r : (x * 256 ^ suc w + y) % 256 ≡ y % 256 = rw (p, m) (omega arith) in
    let ih : be (v + w) (x * 256 ^ w + y / 256) ≡ be v x ++ be w (y / 256) = be-add v w x (y / 256) (omega arith) in
    rw (add-suc, q, r, ih, append_assoc)

-- a number is cut into the two
pub be_cut : (v w n : ℕ) → be (v + w) n ≡ be v (n / 256 ^ w) ++ be w (n % 256 ^ w)
be_cut v w n =
    ap (be (v + w)) (sym (div-add-mod' n (256 ^ w))) ∙ be-add v w (n / 256 ^ w) (n % 256 ^ w) (mod-lt n (one-le-pow w 256 (omega arith)))

-- one byte and three, as the writers make them
pub be-one : (v : ℕ) → v < 256 → be 1 v ≡ v ∷ []
unfolding be
be-one v h = rw mod-eq_of_lt
