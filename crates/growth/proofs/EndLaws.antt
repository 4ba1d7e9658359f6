-- The ends of an in-bounds claim as machine words.
use Prim.Native.Nat.{ℕ, ◌+◌, ◌*◌, ◌^◌, ◌<◌}
use mathlib.Core.Bool.{true}
use mathlib.Core.Path.{◌≡◌}
use native.Mathlib.Omega.{arith}
use Rattle.number.specs.Whole.{val, bound}
use Rattle.number.specs.declared.wide.Wide.{Wide}
use Rattle.model.specs.Trace.{in_bounds, top}
use Rattle.model.proofs.StateLaws.{top_lt}
use Rattle.claim.specs.Told.{plain_claim}
use Rattle.claim.specs.declared.claim.Claim.{Claim}

last_part : (x y : ℕ) → x * 2 ^ 64 + y < bound → y ≡ x * 2 ^ 64 + y
last_part x y h = omega arith

low_part : (a : Wide) → val a < bound → a.lo ≡ val a
unfolding val
low_part a h = last_part (a.top * 2 ^ 64 + a.hi) a.lo h

-- the ends of an in-bounds claim are their last parts, and below the bound
pub ends_low : (c : Claim) → in_bounds (plain_claim c) ≡ true
    → (c.end1.lo ≡ val c.end1) × (c.end2.lo ≡ val c.end2) × (top (plain_claim c) < bound)
ends_low c e =
    let h = top_lt (plain_claim c) e in
    (low_part c.end1 (omega (arith, h)), low_part c.end2 (omega (arith, h)), h)
