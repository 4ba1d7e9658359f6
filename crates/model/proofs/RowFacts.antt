-- What a row that meets all constraints says: each constraint by its place, free of the condition it stands under.
use Prim.Native.Nat.{ℕ, zero, suc, ◌<◌}
use mathlib.Core.Bool.{Bool, true, not}
use mathlib.Core.Logic.{◌≢◌}
use mathlib.Core.Path.{◌≡◌, refl, ap}
use native.Mathlib.Decide.{dec_lt}
use native.Mathlib.Omega.{arith}
use borrow.Author.Tests.{ne_eqb}
use lib.ListN.{get_or, get_or-eq_default}
use Rattle.number.specs.Cells.{Fit}
use Rattle.model.specs.Columns.{Cells, columns, widths, cells_in}
use Rattle.model.specs.Constraints.{in_use, used, within, beyond, View, constraints, constraint}
use Rattle.model.specs.Promises.{constraint_count, AllHold}
use Rattle.model.specs.Verdict.{view}
use Rattle.model.proofs.TestFacts.{implies_use, if_equal_use}

-- the row meets the constraint at each place of their table, counted from 0
abbrev pub Each : View → Type 0
Each v = (k : ℕ) → get_or (constraints v) k true ≡ true

module _ (r : ℕ → Cells) (n i : ℕ) where
  -- where all constraints hold by their numbers, they do by their places
  pub each : AllHold r n i → Each (view r n i)
  unfolding constraint
  each h k = go (dec_lt k constraint_count)
    where
      go : Dec (k < constraint_count) → get_or (constraints (view r n i)) k true ≡ true
      go (yes l) = h (suc k) (omega arith) l
      go (no l) = get_or-eq_default (constraints (view r n i)) true {n = k} (omega arith)

  -- and the other way round
  pub all_hold : Each (view r n i) → AllHold r n i
  unfolding constraint
  all_hold h zero a b = refl
  all_hold h (suc k) a b = h k

-- ---- the conditions that constraints stand under

-- a row whose STAMP is not 0 is one of an instruction
pub in_use_lem : (x : Cells) → x.stamp ≢ 0 → in_use x ≡ true
unfolding in_use
in_use_lem x u = ap not (ne_eqb x.stamp 0 u)

module _ (x : Cells) (u : x.stamp ≢ 0) where
  -- it meets what one of 7 to 25 asks
  pub of_used : (k : Bool) → used x k ≡ true → k ≡ true
  of_used k h = implies_use (in_use x) k h (in_use_lem x u)

  -- what one of 11 to 23 asks, where OOOB=0
  pub of_within : x.ooob ≡ 0 → (k : Bool) → within x k ≡ true → k ≡ true
  of_within o k h = if_equal_use x.ooob 0 k (of_used _ h) o

  -- what 24 or 25 asks, where OOOB=1
  pub of_beyond : x.ooob ≡ 1 → (k : Bool) → beyond x k ≡ true → k ≡ true
  of_beyond o k h = if_equal_use x.ooob 1 k (of_used _ h) o

-- ---- bytes

-- cells of one byte are below 256
pub record Narrow (x : Cells) : Type 0 where
  pub byte1 : x.byte1 < 256
  pub byte2 : x.byte2 < 256
  pub dbyte : x.dbyte < 256
  pub ebyte : x.ebyte < 256
  pub q1byte : x.q1byte < 256
  pub q2byte : x.q2byte < 256
  pub aux1 : x.aux1 < 256
  pub aux2 : x.aux2 < 256

-- those of a row whose cells fit their columns are
pub narrow : (x : Cells) → Fit widths (cells_in columns x) → Narrow x
unfolding Fit
narrow x f = omega arith
