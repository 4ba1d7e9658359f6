-- Runs of stores, one after the other.
use Prim.Native.Nat.{ℕ, suc, ◌+◌, ◌/◌, ◌%◌, ◌^◌, ◌≤◌}
use mathlib.Core.List.{List, [], ◌∷◌, ◌++◌, append_assoc}
use mathlib.Core.Path.{◌≡◌, ◌∙◌, ap, sym}
use native.Mathlib.Nat.{add-zero, add-suc, suc-add}
use native.Mathlib.Omega.{arith}
use borrow.Rule.Slice.PartMut.{put_mid}
use lib.ListN.{length, set, take, drop}
use lib.Seq.{sets, sets-eq, drop-drop}
use Rattle.number.specs.Num.{be}
use Rattle.number.proofs.NumLaws.{length-be, be_cut}

-- two runs, the second where the first ends, are one
pub sets-append : (l : List ℕ) (i : ℕ) (a b : List ℕ) → sets (sets l i a) (i + length a) b ≡ sets l i (a ++ b)
sets-append l i [] b = rw add-zero
sets-append l i (x ∷ a) b = rw (add-suc, ← suc-add) (sets-append (set l i x) (suc i) a b)

-- a number of w bytes, and the stores after it
pub sets_then : {m : List ℕ} (l : List ℕ) (i w v : ℕ) (rest : List ℕ) → m ≡ sets l i (be w v) → sets m (i + w) rest ≡ sets l i (be w v ++ rest)
sets_then l i w v rest e = rw e (rw (length-be w v) at (sets-append l i (be w v) rest))

-- a number of v + w bytes, in two parts
pub sets_cut : {m k : List ℕ} (l : List ℕ) (i v w n : ℕ) → m ≡ sets l i (be v (n / 256 ^ w)) → k ≡ sets m (i + v) (be w (n % 256 ^ w)) → k ≡ sets l i (be (v + w) n)
sets_cut l i v w n e f = f ∙ sets_then l i v (n / 256 ^ w) (be w (n % 256 ^ w)) e ∙ ap (sets l i) (sym (be_cut v w n))

-- bytes that were copied into the part of a slice from i on
pub copied : (l : List ℕ) (i k : ℕ) (now bytes : List ℕ) → now ≡ bytes → k ≡ length bytes → i + k ≤ length l → put_mid i k l now ≡ sets l i bytes
copied l i k now bytes e n h = rw (e, n, drop-drop) (sym (sets-eq bytes l i (omega (arith, n, h)) ∙ append_assoc (take i l) bytes (drop (i + length bytes) l)))
