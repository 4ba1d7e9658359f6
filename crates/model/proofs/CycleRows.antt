-- The rows of one cycle that meets the constraints: what they keep, and how their bytes sum up, once over the number of rows.
use Prim.Native.Nat.{ℕ, zero, suc, ◌^◌, ◌<◌, ◌≤◌}
use mathlib.Core.Bool.{true}
use mathlib.Core.List.{List}
use mathlib.Core.Logic.{◌≢◌}
use mathlib.Core.Path.{◌≡◌, refl, sym, ◌∙◌, ap}
use native.Mathlib.Nat.{le_of_suc-le}
use native.Mathlib.Omega.{arith}
use lib.ListN.{get_or}
use Rattle.number.specs.Cells.{Fit}
use Rattle.number.specs.Sums.{SumsUp, prefix_at, digit_at}
use Rattle.number.proofs.SumLaws.{sum_lt, sums_prefix, sums_digit}
use Rattle.model.specs.Columns.{Cells, columns, widths, cells_in}
use Rattle.model.specs.Constraints.{View, kept, k10}
use Rattle.model.specs.Cycles.{Claim, claim_of}
use Rattle.model.specs.State.{State, state_of}
use Rattle.model.specs.Tests.{sums_up}
use Rattle.model.proofs.ConstraintFacts.{says8}
use Rattle.model.proofs.RowFacts.{Each, Narrow, narrow, of_used}
use Rattle.model.proofs.TestFacts.{sums_first, sums_next}

-- the rows of a cycle with the last CT m and the OOOB o, as they are looked at: each sees the ones before it
pub record Rows (m o : ℕ) (v : ℕ → View) : Type 0 where
  pub one : (i : ℕ) → i < m → (v (suc i)).one ≡ (v i).this
  pub two : (i : ℕ) → suc i < m → (v (suc (suc i))).two ≡ (v i).this
  pub used : (i : ℕ) → i ≤ m → (v i).this.stamp ≢ 0
  pub stamp : (i : ℕ) → i ≤ m → (v i).this.stamp ≡ (v 0).this.stamp
  pub ooob : (i : ℕ) → i ≤ m → (v i).this.ooob ≡ o
  pub ct : (i : ℕ) → i ≤ m → (v i).this.ct ≡ i
  pub each : (i : ℕ) → i ≤ m → Each (v i)
  pub fit : (i : ℕ) → i ≤ m → Fit widths (cells_in columns (v i).this)

-- the state before, as a row has it
abbrev pub state_in : Cells → State
state_in x = record { mem = x.mem; cost = x.cost }

-- the claim and the states before and after it are among the cells that a cycle keeps
pub claim-kept : (x y : Cells) → kept x ≡ kept y → claim_of x ≡ claim_of y
claim-kept x y e = ap {B = Claim} (λ (l : List ℕ). record { context = record { cn = get_or l 0 0 }; end1 = get_or l 1 0; end2 = get_or l 2 0 }) e

state-kept : (x y : Cells) → kept x ≡ kept y → state_in x ≡ state_in y
state-kept x y e = ap {B = State} (λ (l : List ℕ). record { mem = get_or l 3 0; cost = get_or l 5 0 }) e

-- the state after it
pub left-kept : (x y : Cells) → kept x ≡ kept y → state_of x ≡ state_of y
left-kept x y e = ap {B = State} (λ (l : List ℕ). record { mem = get_or l 4 0; cost = get_or l 6 0 }) e

module _ (m o : ℕ) (v : ℕ → View) (rows : Rows m o v) where
  kept_next : (i : ℕ) → suc i ≤ m → kept (v (suc i)).this ≡ kept (v i).this
  kept_next i h =
      says8 (v (suc i)).one (v (suc i)).this (of_used _ (rows.used (suc i) h) _ (rows.each (suc i) h 7))
      (λ e. absurd (omega (arith, rows.ct (suc i) h))) ∙ ap kept (rows.one i h)

  kept-first : (i : ℕ) → i ≤ m → kept (v i).this ≡ kept (v 0).this
  kept-first zero h = refl
  kept-first (suc i) h = kept_next i h ∙ kept-first i (le_of_suc-le h)

  -- the cells that a cycle keeps are in each row as in the last
  pub as_last : (i : ℕ) → i ≤ m → (k : ℕ) → get_or (kept (v i).this) k 0 ≡ get_or (kept (v m).this) k 0
  as_last i h k = ap (λ (l : List ℕ). get_or l k 0) (kept-first i h ∙ sym (kept-first m (omega arith)))

  -- and so the claim and the state before it, as the last row shows them, are those that the first row shows
  pub as_first : (P : State → Claim → Type 0) → P (state_in (v m).this) (claim_of (v m).this) → P (state_in (v 0).this) (claim_of (v 0).this)
  as_first P p =
      let same : kept (v m).this ≡ kept (v 0).this = kept-first m (omega arith) in
      rw (state-kept (v m).this (v 0).this same, claim-kept (v m).this (v 0).this same) at p

  -- its byte cells are below 256
  pub narrow_at : (i : ℕ) → i ≤ m → Narrow (v i).this
  narrow_at i h = narrow (v i).this (rows.fit i h)

  -- BYTE1 sums up into ACC1
  pub met10 : (i : ℕ) → i ≤ m → k10 (v i).one (v i).this ≡ true
  met10 i h = of_used (v i).this (rows.used i h) _ (rows.each i h 9)

  -- a byte column x that sums up into y
  module _ (x y : Cells → ℕ) (bytes : (i : ℕ) → i ≤ m → x (v i).this < 256)
      (sums : (i : ℕ) → i ≤ m → sums_up (v i).this.ct (y (v i).one) (x (v i).this) (y (v i).this) ≡ true) where
    sums_up_lem : SumsUp m (λ i. x (v i).this) (λ i. y (v i).this)
    sums_up_lem = record {
      first = sums_first _ _ _ _ (sums 0 (omega arith)) (rows.ct 0 (omega arith));
      next = λ i h. rw (rows.one i h) at (sums_next _ i _ _ _ (sums (suc i) h) (rows.ct (suc i) h));
    }

    -- the last sum fits the number of rows
    pub sum_fits : y (v m).this < 256 ^ suc m
    sum_fits = sum_lt m _ _ bytes sums_up_lem

    -- and determines the bytes and the sums
    pub pinned : {n : ℕ} → y (v m).this ≡ n → (i : ℕ) → i ≤ m → (x (v i).this ≡ digit_at m n i) × (y (v i).this ≡ prefix_at m n i)
    pinned e i h = rw (← e) (sums_digit m _ _ bytes sums_up_lem i h, sums_prefix m _ _ bytes sums_up_lem i h)
