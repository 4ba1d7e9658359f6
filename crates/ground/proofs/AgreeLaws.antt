-- The four cells of a vector, one after the other, and what writing them over as many bytes gives.
use Prim.Native.Nat.{ℕ, ◌+◌, ◌≤◌}
use mathlib.Core.List.{List, [], ◌++◌, append-nil}
use mathlib.Core.Bool.{Bool, true, false}
use mathlib.Core.Path.{◌≡◌, ◌∙◌, refl}
use native.Mathlib.Nat.{add_assoc}
use native.Mathlib.Omega.{arith}
use lib.ListN.{length, take, drop, drop_of_length-le}
use lib.Seq.{sets, sets-eq}
use Rattle.std.specs.Int.{from_bool}
use Rattle.ground.specs.Agree.{widths}
use Rattle.number.specs.Cells.{encode, decode}
use Rattle.number.specs.Num.{num, be, AllBytes}
use Rattle.number.specs.Tests.{bit}
use Rattle.number.proofs.CellLaws.{encode-decode, length-encode}

-- the four cells of a vector, stored one after the other, are its bytes
pub four_cells : (t : List ℕ) (p : ℕ)
    → encode widths (decode widths t p) ≡ be 1 (num t p 1) ++ (be 3 (num t (p + 1) 3) ++ (be 4 (num t (p + 4) 4) ++ be 17 (num t (p + 8) 17)))
unfolding encode decode
four_cells t p = simp (add_assoc, append-nil)

-- cells written over as many bytes leave nothing of those
pub cells_over : (z t : List ℕ) (p : ℕ) → AllBytes t → p + 25 ≤ length t → length z ≡ 25
    → sets z 0 (encode widths (decode widths t p)) ≡ take 25 (drop p t)
cells_over z t p bs h l =
    let vs = encode widths (decode widths t p) in
    let n : length vs ≡ 25 = length-encode widths (decode widths t p) in
    let e : vs ≡ take 25 (drop p t) = encode-decode widths t p bs h in
    let none : drop (0 + length vs) z ≡ [] = drop_of_length-le z {i = 0 + length vs} (omega arith) in
    sets-eq vs z 0 (omega arith) ∙ rw (none, append-nil, e)

-- the number that std makes of a test
pub bit_of : (b : Bool) → from_bool b ≡ bit b
bit_of true = refl
bit_of false = refl
