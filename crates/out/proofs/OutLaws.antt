-- The arrays of a claim and of a step, case by case: what the code lays out is what the definition says.
use Prim.Native.Nat.{ℕ, ◌*◌, ◌-◌, ◌^◌, ◌<◌}
use mathlib.Core.List.{List, [], ◌∷◌}
use mathlib.Core.Path.{◌≡◌, refl}
use native.Mathlib.Omega.{arith}
use borrow.Author.Tests.{eq-eqb, ne_eqb}
use Rattle.std.specs.Prelude.{Ok}
use Rattle.number.proofs.WholeLaws.{wide_is}
use Rattle.model.specs.Columns.{row_bytes}
use Rattle.claim.specs.declared.claim.Claim.{Claim}
use Rattle.trace.specs.Told.{claim_numbers}
use Rattle.out.specs.Out.{claim_list, step_between}

-- the numbers for a claim as the code lays them out: its context, and each end by its first byte and two halves
abbrev pub claim_cells : Claim → List ℕ
claim_cells c =
    0 ∷ 0 ∷ 0 ∷ c.context.cn
    ∷ c.end1.top ∷ c.end1.hi ∷ c.end1.lo
    ∷ c.end2.top ∷ c.end2.hi ∷ c.end2.lo ∷ []

-- a claim whose halves are numbers of 64 bits, by the parts of its ends
pub claim_out_lem : (c : Claim) → c.end1.hi < 2 ^ 64 → c.end1.lo < 2 ^ 64 → c.end2.hi < 2 ^ 64 → c.end2.lo < 2 ^ 64
    → claim_cells c ≡ claim_list (claim_numbers (Ok c))
claim_out_lem c h1 l1 h2 l2 =
    let one = wide_is c.end1 _ refl h1 l1 in
    let two = wide_is c.end2 _ refl h2 l2 in
    λ i. claim_cells (record { context = c.context; end1 = one i; end2 = two i })

module _ (next after : ℕ) where
  -- a step that stays gives nothing
  pub between_stays : after ≡ next → step_between next after ≡ record { from = 0; bytes = 0; next = next }
  between_stays e =
      let none : after - next ≡ 0 = omega arith in
      rw (eq-eqb after next e, none, e)

  -- one that moves gives its rows
  pub between_moves : (after ≡ next → ⊥) → step_between next after ≡ record { from = next * row_bytes; bytes = (after - next) * row_bytes; next = after }
  between_moves on = rw (ne_eqb after next on)
