-- The vectors of a file, cut out of it: what one says by its own bytes is what the file says from its place on, and so are the wrong ones counted.
use Prim.Native.Nat.{ℕ, zero, suc, ◌+◌, ◌*◌, ◌≤◌}
use mathlib.Core.List.{List}
use mathlib.Core.Bool.{Bool, true, false, not, cond}
use mathlib.Core.Path.{◌≡◌, ◌∙◌, refl, sym, ap, ap₂}
use native.Mathlib.Nat.{add-zero, zero-add}
use native.Mathlib.Omega.{arith}
use lib.ListN.{take, drop, get_or}
use lib.Seq.{get_or-take, get_or-drop, drop-drop}
use Rattle.std.specs.Simd.{first_chunks}
use Rattle.std.proofs.lemmas.List.Sums.{sum_by-cons}
use Rattle.ground.specs.Agree.{agrees, costs_agree, splits_agree, orders_agree, steps_agree, differences_agree, cells_agree, wrongs, wrong_among, vector_bytes}
use Rattle.ground.specs.declared.Kind.TheVariants.{Costs, Splits, Orders, Steps, Differences, Cells}
use Rattle.ground.specs.declared.Kind.{Kind}
use Rattle.number.specs.Num.{num}
use Rattle.number.specs.Tests.{bit}

-- the vector at p of t
abbrev vector : List ℕ → ℕ → List ℕ
vector t p = take vector_bytes (drop p t)

-- a number of the vector is the one that stands in the file
num_in : (t : List ℕ) (p i w : ℕ) → i + w ≤ vector_bytes → num (vector t p) i w ≡ num t (p + i) w
unfolding num
num_in t p i zero h = refl
num_in t p i (suc w) h =
    let byte : get_or (vector t p) (i + w) 0 ≡ get_or t (p + i + w) 0
    = get_or-take vector_bytes (drop p t) (i + w) 0 (omega arith) ∙ get_or-drop p t (i + w) 0 ∙ ap (λ n. get_or t n 0) (omega arith) in
    ap₂ (λ a b. a * 256 + b) (num_in t p i w (omega arith)) byte

-- also the one that it begins with: a sum with no 0 in it
num_first : (t : List ℕ) (p w : ℕ) → w ≤ vector_bytes → num (vector t p) 0 w ≡ num t p w
num_first t p w h = num_in t p 0 w (omega arith) ∙ ap (λ n. num t n w) (omega arith)

-- a vector says by its own bytes what the file says from its place on
pub same_vector : (k : Kind) (t : List ℕ) (p : ℕ) → agrees k (vector t p) 0 ≡ agrees k t p
unfolding costs_agree splits_agree orders_agree steps_agree differences_agree cells_agree
same_vector Costs t p = rw (num_first t p 4 (omega arith), num_in t p 4 4 (omega arith), num_in t p 8 17 (omega arith))
same_vector Splits t p = rw (num_first t p 4 (omega arith), num_in t p 4 17 (omega arith), num_in t p 21 1 (omega arith), num_in t p 22 1 (omega arith))
same_vector Orders t p = rw (num_first t p 17 (omega arith), num_in t p 17 17 (omega arith), num_in t p 34 1 (omega arith), num_in t p 35 1 (omega arith), num_in t p 36 1 (omega arith))
same_vector Steps t p = rw (num_first t p 17 (omega arith), num_in t p 17 17 (omega arith), num_in t p 34 1 (omega arith), num_in t p 35 17 (omega arith), num_in t p 52 1 (omega arith))
same_vector Differences t p = rw (num_first t p 17 (omega arith), num_in t p 17 4 (omega arith), num_in t p 21 17 (omega arith), num_in t p 38 17 (omega arith))
same_vector Cells t p = rw (num_in t p 1 3 (omega arith), num_in t p 25 4 (omega arith))

-- what std counts for a test is the number of it
bit_cond : (b : Bool) → cond b 1 0 ≡ bit b
bit_cond true = refl
bit_cond false = refl

-- the wrong ones of m vectors and of the n after them, which are cut out of the file, are those of all
wrong_on : (k : Kind) (t : List ℕ) (m n : ℕ)
    → wrongs k t m + wrong_among k (first_chunks vector_bytes n (drop (m * vector_bytes) t)) ≡ wrongs k t (m + n)
unfolding wrongs
wrong_on k t m zero = add-zero _ ∙ ap (wrongs k t) (sym (add-zero m))
wrong_on k t m (suc n) =
    let place : ℕ = m * vector_bytes in
    let rest : drop vector_bytes (drop place t) ≡ drop (suc m * vector_bytes) t = drop-drop vector_bytes place t ∙ ap (λ i. drop i t) (omega arith) in
    let after : ℕ = wrong_among k (first_chunks vector_bytes n (drop (suc m * vector_bytes) t)) in
    let one : wrong_among k (first_chunks vector_bytes (suc n) (drop place t)) ≡ bit (not (agrees k t place)) + after
    = sum_by-cons (λ v. cond (not (agrees k v 0)) 1 0) (vector t place) (first_chunks vector_bytes n (drop vector_bytes (drop place t)))
    ∙ ap₂ (λ a b. a + b) (bit_cond _ ∙ ap (λ b. bit (not b)) (same_vector k t place)) (ap (λ l. wrong_among k (first_chunks vector_bytes n l)) rest) in
    let joined : wrongs k t m + (bit (not (agrees k t place)) + after) ≡ wrongs k t m + bit (not (agrees k t place)) + after = omega arith in
    ap (λ c. wrongs k t m + c) one ∙ joined ∙ wrong_on k t (suc m) n ∙ ap (wrongs k t) (omega arith)

-- the wrong ones among a file's first n vectors
pub wrong_ones : (k : Kind) (t : List ℕ) (n : ℕ) → wrong_among k (first_chunks vector_bytes n t) ≡ wrongs k t n
unfolding wrongs
wrong_ones k t n = sym (zero-add _) ∙ wrong_on k t 0 n ∙ ap (wrongs k t) (zero-add n)
