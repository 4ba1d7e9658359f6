-- The bytes that std makes of a number, the most significant first, are its bytes.
use Prim.Native.Nat.{ℕ, zero, suc, ◌/◌, ◌%◌, ◌^◌}
use mathlib.Core.List.{List, ◌∷◌}
use mathlib.Core.Path.{◌≡◌, refl, sym, ◌∙◌, ap}
use native.Mathlib.Nat.{div-div-eq-div-mul, div-one, pow-succ'}
use native.Mathlib.Omega.{arith}
use Rattle.std.specs.Int.{byte_at, bytes_high_first}
use Rattle.number.specs.Num.{be}

-- a byte of a number, by its place
byte_at-pow : (k v : ℕ) → byte_at k v ≡ v / 256 ^ k % 256
byte_at-pow zero v = ap (λ (x : ℕ). x % 256) (sym (div-one v))
byte_at-pow (suc k) v = refl

-- the first byte of one byte more
be_first : (k v : ℕ) → be (suc k) v ≡ byte_at k v ∷ be k v
unfolding be
be_first zero v = refl
be_first (suc k) v =
    let first : byte_at k (v / 256) ≡ byte_at (suc k) v = byte_at-pow k (v / 256) ∙ ap (λ (x : ℕ). x % 256) (div-div-eq-div-mul v 256 (256 ^ k)) ∙ ap (λ (x : ℕ). v / x % 256) (sym (pow-succ' 256 k)) in
    rw (be_first k (v / 256), first)

pub be_high : (k v : ℕ) → bytes_high_first k v ≡ be k v
unfolding be
be_high zero v = refl
be_high (suc k) v = ap (λ (l : List ℕ). byte_at k v ∷ l) (be_high k v) ∙ sym (be_first k v)

-- two bytes are those of the last two
pub be-two : (x : ℕ) → be 2 (x % 65536) ≡ be 2 x
unfolding be
be-two x =
    let p : x % 65536 / 256 % 256 ≡ x / 256 % 256 = omega arith in
    let q : x % 65536 % 256 ≡ x % 256 = omega arith in
    rw (p, q)
