-- Bytes that std makes a number of, cut from a list: the number that stands there.
use Prim.Native.Nat.{ℕ, zero, suc, ◌+◌, ◌<◌}
use mathlib.Core.List.{List}
use mathlib.Core.Path.{◌≡◌, refl, ◌∙◌}
use native.Mathlib.Nat.{add-zero, add-suc}
use native.Mathlib.Omega.{arith}
use lib.ListN.{take, drop, get_or}
use Rattle.std.proofs.lemmas.List.{get_or-take, get_or-drop}
use Rattle.std.specs.Int.{w16, w32, w64, from_be_bytes, from_le_bytes}
use Rattle.number.specs.Num.{num}
use Rattle.cell.specs.Low.{low_num}

module _ (l : List ℕ) (p : ℕ) where
  -- a byte of those that were cut
  byte : (n i : ℕ) → i < n → get_or (take n (drop p l)) i 0 ≡ get_or l (p + i) 0
  byte n i h = get_or-take n (drop p l) i 0 h ∙ get_or-drop p l i 0

  pub be_read_2 : from_be_bytes w16 (take 2 (drop p l)) ≡ num l p 2
  unfolding num
  be_read_2 = omega (arith, byte 2 0 (omega arith), byte 2 1 (omega arith))

  pub be_read_4 : from_be_bytes w32 (take 4 (drop p l)) ≡ num l p 4
  unfolding num
  be_read_4 = omega (arith, byte 4 0 (omega arith), byte 4 1 (omega arith), byte 4 2 (omega arith), byte 4 3 (omega arith))

  pub be_read_8 : from_be_bytes w64 (take 8 (drop p l)) ≡ num l p 8
  unfolding num
  be_read_8 =
      omega (
        arith,
        byte 8 0 (omega arith),
        byte 8 1 (omega arith),
        byte 8 2 (omega arith),
        byte 8 3 (omega arith),
        byte 8 4 (omega arith),
        byte 8 5 (omega arith),
        byte 8 6 (omega arith),
        byte 8 7 (omega arith),
      )

  -- a number of what stands behind the first p
  low_drop : (i w : ℕ) → low_num l (p + i) w ≡ low_num (drop p l) i w
  unfolding low_num
  low_drop i zero = refl
  low_drop i (suc w) = rw (← add-suc p i, low_drop (suc i) w, get_or-drop)

  -- a byte of those that were cut
  cut : (i : ℕ) → i < 8 → get_or (take 8 (drop p l)) i 0 ≡ get_or (drop p l) i 0
  cut i h = get_or-take 8 (drop p l) i 0 h

  pub le_read_8 : from_le_bytes w64 (take 8 (drop p l)) ≡ low_num l p 8
  unfolding low_num
  le_read_8 =
      omega (
        arith,
        rw add-zero at (low_drop 0 8),
        cut 0 (omega arith),
        cut 1 (omega arith),
        cut 2 (omega arith),
        cut 3 (omega arith),
        cut 4 (omega arith),
        cut 5 (omega arith),
        cut 6 (omega arith),
        cut 7 (omega arith),
      )
