-- Where a row starts a cycle, and what constraint 9 asks of it there.
use Prim.Native.Nat.{ℕ, zero, suc}
use mathlib.Core.Bool.{true, false, false≢true, not}
use mathlib.Core.Logic.{◌≢◌, inl}
use mathlib.Core.Path.{◌≡◌, refl, ap}
use native.Mathlib.Decide.{ℕ_discrete}
use native.Mathlib.Omega.{arith}
use borrow.Author.Tests.{eq-eqb, ne_eqb}
use lib.Dec.{eqb}
use Rattle.model.specs.Columns.{Cells}
use Rattle.model.specs.Constraints.{in_use, k3, k4, k9}
use Rattle.model.specs.Cycles.{starts}
use Rattle.model.specs.State.{Context, State, context_of}
use Rattle.model.specs.Tests.{pick}
use Rattle.model.specs.Verdict.{row_before}
use Rattle.model.proofs.TestFacts.{implies_use}
use Rattle.state.specs.Look.{look_back}
use Rattle.state.proofs.LookLaws.{Between, stamp_before_new}
use Rattle.checker.specs.Rows.{asked}

-- a row that meets 3 and 4 and starts a cycle comes after an empty row or the last of a cycle
pub between : (r : ℕ → Cells) (i : ℕ) (x : Cells) → k3 (eqb i 0) (row_before r i) x ≡ true → k4 (row_before r i) x ≡ true
    → x.stamp ≢ 0 → x.ct ≡ 0 → Between r i
unfolding k3 k4
between r zero x s c u z = inl refl
between r (suc i) x s c u z =
    let later : not (eqb (suc i) 0) ≡ true = ap not (ne_eqb (suc i) 0 (λ e. absurd (omega arith))) in
    (stamp_before_new _ _ _ _ _ (implies_use (not (eqb (suc i) 0)) _ s later) c u z).1

-- a row of an instruction has a STAMP
pub used_stamp : (x : Cells) → in_use x ≡ true → x.stamp ≢ 0
unfolding in_use
used_stamp x u e = false≢true (rw (eq-eqb x.stamp 0 e) at u)

-- the answer to 9 for a row of an instruction, asked only where a cycle starts
pub asked_where_starts : (x : Cells) (s t : State) → in_use x ≡ true → (x.ct ≡ 0 → s ≡ t) → pick (starts x) (k9 s x) true ≡ k9 t x
unfolding starts k9
asked_where_starts x s t u h = go (ℕ_discrete x.ct 0)
  where
    go : Dec (x.ct ≡ 0) → pick (starts x) (k9 s x) true ≡ k9 t x
    go (yes e) = rw (u, eq-eqb x.ct 0 e, h e)
    go (no e) = rw (u, ne_eqb x.ct 0 e)

module _ (r : ℕ → Cells) (cycles i : ℕ) (x : Cells) (row : x ≡ r i) where
  -- where row i starts a cycle, it is asked of the state that was looked up for its context
  pub asked-start : (y : Context) (s : State) → starts x ≡ true → y ≡ context_of (r i) → s ≡ (look_back r y cycles i).state → k9 s x ≡ asked r cycles i
  unfolding asked
  asked-start y s h own e = rw (← row, h, e, own, ← row)

  -- elsewhere it is not asked
  pub asked_else : starts x ≡ false → true ≡ asked r cycles i
  unfolding asked
  asked_else h = rw (← row, h)
