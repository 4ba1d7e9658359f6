-- The states before a row: over empty rows they stay, and over the rows of a claim they become those after it.
use Prim.Native.Nat.{ℕ, zero, suc, ◌+◌, ◌<◌, ◌≤◌}
use mathlib.Core.Logic.{◌≢◌}
use mathlib.Core.Path.{◌≡◌, refl, sym, ◌∙◌, fun_ext}
use native.Mathlib.Nat.{add-suc, add-zero, le_of_suc-le}
use native.Mathlib.Omega.{arith}
use Rattle.model.specs.Columns.{Cells, empty_row}
use Rattle.model.specs.Constraints.{in_use}
use Rattle.model.specs.Cycles.{Claim}
use Rattle.model.specs.State.{Context, State, same_context, fresh, put}
use Rattle.model.specs.Trace.{row_of, after, after_claim}
use Rattle.model.specs.Verdict.{passed, before}
use Rattle.model.proofs.ReadBack.{is_row}
use Rattle.model.proofs.RowFacts.{in_use_lem}
use Rattle.model.proofs.TestFacts.{pick_second}

put_twice : (states : Context → State) (x : Context) (s : State) → put (put states x s) x s ≡ put states x s
unfolding put
put_twice states x s = fun_ext (λ y. pick_second (same_context x y) s _ (λ e. rw e))

module _ (r : ℕ → Cells) where
  -- an empty row changes no state
  pub before_empty : (i : ℕ) → r i ≡ empty_row → before r (suc i) ≡ before r i
  unfolding before passed in_use
  before_empty i e = rw e

  -- over empty rows from the first on, all contexts are without an earlier instruction
  pub before_empties : (n : ℕ) → ((i : ℕ) → i < n → r i ≡ empty_row) → before r n ≡ fresh
  unfolding before
  before_empties zero h = refl
  before_empties (suc n) h = before_empty n (h n (omega arith)) ∙ before_empties n (λ i l. h i (omega arith))

  -- the rows of a claim with a stamp k that is not 0 stand from p on, up to CT m
  module _ (p m k : ℕ) (c : Claim) (used : k ≢ 0) (rows : (i : ℕ) → i ≤ m → r (p + i) ≡ row_of k (before r p c.context) c i) where
    abbrev s : State
    s = before r p c.context

    passed-row : (states : Context → State) (i : ℕ) → i ≤ m → passed states (r (p + i)) ≡ put states c.context (after s c)
    unfolding passed
    passed-row states i h =
        let f = is_row k s c i in
        rw (rows i h, in_use_lem (row_of k s c i) (λ e. used (sym f.stamp ∙ e)), f.context, f.state)

    over_rows : (i : ℕ) → i ≤ m → before r (p + suc i) ≡ after_claim (before r p) c
    unfolding before
    over_rows zero l = rw (add-suc, add-zero) (rw add-zero at (passed-row (before r p) 0 l))
    over_rows (suc i) l = rw (add-suc, over_rows i (le_of_suc-le l), passed-row _ (suc i) l) (put_twice (before r p) c.context (after s c))

    -- the states become those after the claim
    pub before-claim : before r (p + suc m) ≡ after_claim (before r p) c
    before-claim = over_rows m (omega arith)
