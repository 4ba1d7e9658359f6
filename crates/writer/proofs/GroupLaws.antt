-- Cells side by side, stored as one number.
use Prim.Native.Nat.{ℕ, ◌+◌, ◌*◌, ◌%◌, ◌^◌}
use mathlib.Core.List.{List, [], ◌∷◌, ◌++◌, append-nil, append_assoc}
use mathlib.Core.Path.{◌≡◌, refl, sym, ◌∙◌, ap}
use native.Mathlib.Nat.{add-zero, zero-add, add_assoc}
use lib.Seq.{sets}
use Rattle.number.specs.Cells.{total, encode, Fit}
use Rattle.number.specs.Num.{be}
use Rattle.number.proofs.NumLaws.{be-add, be_cut}
use Rattle.number.proofs.StoreLaws.{sets_then}
use Rattle.row.specs.Group.{joined}

-- the bytes that have no room do not count
pub be-mod : (w n : ℕ) → be w (n % 256 ^ w) ≡ be w n
unfolding be
be-mod w n = sym (rw zero-add at (be_cut 0 w n))

-- the bytes of cells behind a number are its own and theirs
be-behind : (ws vs : List ℕ) (k n : ℕ) → Fit ws vs → be (k + total ws) (joined ws vs n) ≡ be k n ++ encode ws vs
unfolding joined Fit encode
be-behind [] [] k n f = rw (add-zero, append-nil)
be-behind [] (v ∷ vs) k n f = absurd f
be-behind (w ∷ ws) [] k n f = absurd f
be-behind (w ∷ ws) (v ∷ vs) k n f =
    let rest = be-behind ws vs (k + w) (n * 256 ^ w + v) f.1 in
    rw (← add_assoc, rest, be-add k w n v f.0, append_assoc)

-- and of cells alone theirs
pub be-cells : (ws vs : List ℕ) → Fit ws vs → be (total ws) (joined ws vs 0) ≡ encode ws vs
unfolding be
be-cells ws vs f = rw zero-add at (be-behind ws vs 0 0 f)

-- of the last three bytes, as of the whole number
pub three-last : {v : ℕ} (n : ℕ) → v ≡ n % 16777216 → be 3 v ≡ be 3 n
three-last n e = ap (be 3) e ∙ be-mod 3 n

-- l, once cells of these widths and values are stored one by one, the first of them o bytes after p
abbrev pub stored : (ws vs l : List ℕ) (p o : ℕ) → List ℕ
stored [] vs l p o = l
stored (w ∷ ws) [] l p o = stored ws [] (sets l (p + o) (be w 0)) p (o + w)
stored (w ∷ ws) (v ∷ vs) l p o = stored ws vs (sets l (p + o) (be w v)) p (o + w)

-- the first cell of a run, and the others
run_step : (l rest : List ℕ) (p o v x : ℕ) → sets l (p + o) (be v x ++ rest) ≡ sets (sets l (p + o) (be v x)) (p + (o + v)) rest
run_step l rest p o v x = sym (rw add_assoc at (sets_then l (p + o) v x rest refl))

-- a run of cells is stored as they are one by one
pub cells_stored : (ws vs l : List ℕ) (p o : ℕ) → sets l (p + o) (encode ws vs) ≡ stored ws vs l p o
unfolding encode
cells_stored [] vs l p o = refl
cells_stored (w ∷ ws) [] l p o = run_step l (encode ws []) p o w 0 ∙ cells_stored ws [] (sets l (p + o) (be w 0)) p (o + w)
cells_stored (w ∷ ws) (v ∷ vs) l p o = run_step l (encode ws vs) p o w v ∙ cells_stored ws vs (sets l (p + o) (be w v)) p (o + w)
