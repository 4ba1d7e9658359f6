-- Where all earlier rows hold, the state that constraint 9 looks at is that of the latest earlier cycle with the context.
use Prim.Native.Nat.{ℕ, zero, suc, ◌+◌, ◌<◌}
use mathlib.Core.Bool.{Bool, true, false, false≢true, not, ◌&&◌}
use mathlib.Core.List.{List, [], ◌∷◌, ◌++◌, reverse, reverse-append, append-nil}
use mathlib.Core.Path.{◌≡◌, refl, sym, ◌∙◌, ap}
use native.Mathlib.Nat.{le_step, lt-suc_self}
use native.Mathlib.Omega.{arith}
use borrow.Author.Tests.{eqb-false}
use lib.Dec.{eqb}
use lib.ListN.{length}
use Rattle.model.specs.Columns.{Cells, table}
use Rattle.model.specs.Constraints.{in_use, kept, k4, k8, constraint}
use Rattle.model.specs.Cycles.{Claim, Looked, starts, cycles_from, cycles, look, last_state}
use Rattle.model.specs.Promises.{AllHold}
use Rattle.model.specs.State.{Context, State, same_context, context_of, state_of, put}
use Rattle.model.specs.Tests.{pick}
use Rattle.model.specs.Verdict.{row_before, passed, before}
use Rattle.model.proofs.ConstraintFacts.{says8}
use Rattle.model.proofs.CycleRows.{claim-kept, left-kept}
use Rattle.model.proofs.ReadBack.{cycles_join}
use Rattle.model.proofs.StepLaws.{same_stamp_lem}
use Rattle.model.proofs.TableOf.{table_snoc}
use Rattle.model.proofs.TestFacts.{implies_use, pick_second}

-- ---- the latest cycle, with one row more

-- a cycle with the row y is looked at, and then the rest
abbrev pub through : Context → Cells → Looked → Looked
through x y rest =
    pick (same_context (context_of y) x) (record { state = state_of y; cycles = 1 }) (record { state = rest.state; cycles = suc rest.cycles })

-- the row's cycle is looked at first, where it starts one
pub last_snoc : (x : Context) (ys : List Cells) (y : Cells)
    → last_state (ys ++ (y ∷ [])) x ≡ pick (starts y) (through x y (last_state ys x)) (last_state ys x)
unfolding last_state cycles_from look
last_snoc x ys y = rw (cycles_join 0 ys (y ∷ [])) (go (starts y))
  where
    go : (t : Bool) → look x (reverse (cycles ys ++ pick t (record { first = 0 + length ys; row = y } ∷ []) []))
        ≡ pick t (through x y (look x (reverse (cycles ys)))) (look x (reverse (cycles ys)))
    go true = rw (reverse-append (cycles ys) (record { first = 0 + length ys; row = y } ∷ []))
    go false = rw append-nil

-- the state is the row's where it starts a cycle of the context
state_snoc : (xs : List Cells) (y : Cells) (x : Context)
    → (last_state (xs ++ (y ∷ [])) x).state ≡ pick (starts y && same_context (context_of y) x) (state_of y) (last_state xs x).state
state_snoc xs y x = ap (λ (a : Looked). a.state) (last_snoc x xs y) ∙ go (starts y) (same_context (context_of y) x) (last_state xs x)
  where
    go : (t u : Bool) (rest : Looked)
        → (pick t (pick u (record { state = state_of y; cycles = 1 }) (record { state = rest.state; cycles = suc rest.cycles })) rest).state
        ≡ pick (t && u) (state_of y) rest.state
    go true true rest = refl
    go true false rest = refl
    go false u rest = refl

-- ---- the state before a row, with one row more

passed_own : (states : Context → State) (y : Cells) (x : Context) → in_use y ≡ true
    → same_context (context_of y) x ≡ true → passed states y x ≡ state_of y
unfolding passed put
passed_own states y x u c = rw (u, c)

module _ (r : ℕ → Cells) (n : ℕ) where
  -- a row that repeats the row before finds the state that it leaves
  before_repeated : (i : ℕ) → in_use (row_before r i) ≡ true → kept (r i) ≡ kept (row_before r i)
      → (x : Context) → same_context (context_of (r i)) x ≡ true → before r i x ≡ state_of (r i)
  unfolding in_use before
  before_repeated zero u e x c = absurd (false≢true u)
  before_repeated (suc i) u e x c =
      let context : context_of (r (suc i)) ≡ context_of (r i) = ap (λ (c : Claim). c.context) (claim-kept (r (suc i)) (r i) e) in
      let state : state_of (r (suc i)) ≡ state_of (r i) = left-kept (r (suc i)) (r i) e in
      passed_own (before r i) (r i) x u (ap (λ (y : Context). same_context y x) (sym context) ∙ c) ∙ sym state

  -- so does every row of a cycle but the first
  before_inside : (i : ℕ) → AllHold r n i → in_use (r i) ≡ true → eqb (r i).ct 0 ≡ false
      → (x : Context) → same_context (context_of (r i)) x ≡ true → before r i x ≡ state_of (r i)
  unfolding constraint k4 in_use
  before_inside i h u z =
      let b : Cells = row_before r i in
      let inside = eqb-false (r i).ct 0 z in
      let stamp : (r i).stamp ≡ b.stamp = same_stamp_lem _ _ _ _ inside (h 4 (omega arith) (omega arith)) in
      let keeps : k8 b (r i) ≡ true = implies_use (in_use (r i)) _ (h 8 (omega arith) (omega arith)) u in
      before_repeated i (ap (λ (s : ℕ). not (eqb s 0)) (sym stamp) ∙ u) (says8 b (r i) keeps inside)

  -- a row that holds changes a state only where it starts a cycle
  passed-row : (i : ℕ) → AllHold r n i → (x : Context)
      → passed (before r i) (r i) x ≡ pick (starts (r i) && same_context (context_of (r i)) x) (state_of (r i)) (before r i x)
  unfolding passed starts put
  passed-row i h x = go (in_use (r i)) (eqb (r i).ct 0) refl refl
    where
      go : (t u : Bool) → in_use (r i) ≡ t → eqb (r i).ct 0 ≡ u
          → pick t (put (before r i) (context_of (r i)) (state_of (r i))) (before r i) x
          ≡ pick (t && u && same_context (context_of (r i)) x) (state_of (r i)) (before r i x)
      go true true e z = refl
      go true false e z = pick_second (same_context (context_of (r i)) x) (state_of (r i)) (before r i x) (before_inside i h e z x)
      go false u e z = refl

  -- ---- the two agree

  latest_next : (i : ℕ) → AllHold r n i → (x : Context) → before r i x ≡ (last_state (table i r) x).state
      → before r (suc i) x ≡ (last_state (table (suc i) r) x).state
  unfolding before
  latest_next i h x e = rw (table_snoc i r, state_snoc, ← e) (passed-row i h x)

  -- where all constraints hold below row i, the state before it is that of the latest earlier cycle with the context; 0, 0 if there is none
  pub latest_cycle : (i : ℕ) → ((j : ℕ) → j < i → AllHold r n j) → (x : Context) → before r i x ≡ (last_state (table i r) x).state
  unfolding before table last_state cycles_from look
  latest_cycle zero h x = refl
  latest_cycle (suc i) h x = latest_next i (h i (lt-suc_self i)) x (latest_cycle i (λ j l. h j (le_step l)) x)
