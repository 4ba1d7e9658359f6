-- The search back turn by turn, as the code takes it; what it finds, and what a lower limit does to it.
use Prim.Native.Nat.{ℕ, zero, suc, ◌+◌, ◌-◌, ◌*◌, ◌<◌, ◌≤◌}
use mathlib.Core.Bool.{Bool, true, false}
use mathlib.Core.Logic.{◌≢◌}
use mathlib.Core.Path.{◌≡◌, refl, sym, ap}
use native.Mathlib.Nat.{add-zero, sub-zero, zero-add, le_of_suc-le-suc}
use native.Mathlib.Omega.{arith}
use borrow.Author.Tests.{leb-true, le-leb, lt-leb}
use lib.Dec.{leb, leb-zero, leb-suc-zero, leb-suc-suc}
use Rattle.std.specs.Prelude.{Option, None, Some}
use Rattle.model.specs.Cycles.{cycle_rows}
use Rattle.model.specs.Columns.{Cells, row_bytes}
use Rattle.model.specs.State.{Context, State, same_context, context_of}
use Rattle.model.specs.Tests.{pick}
use Rattle.model.specs.Verdict.{row_before}
use Rattle.model.proofs.TestFacts.{pick_under}
use Rattle.state.specs.Look.{found_at, none_in, one_more, search_back, found_in, state_found, look_back}
use Rattle.state.specs.declared.look.Search.{Search}

-- ---- one cycle

module _ (r : ℕ → Cells) (x : Context) where
  search_part : (limit to : ℕ) → to < cycle_rows (row_before r to) → search_back r x limit to ≡ none_in 0
  unfolding search_back
  search_part zero to h = refl
  search_part (suc limit) to h = rw (lt-leb _ _ h)

  -- where a whole cycle is left, its last row is looked at
  pub search_whole : (limit last : ℕ) → cycle_rows (r last) ≤ suc last
      → search_back r x (suc limit) (suc last)
      ≡ pick (same_context (context_of (r last)) x) (found_at last) (one_more (search_back r x limit (suc last - cycle_rows (r last))))
  unfolding search_back
  search_whole limit last h =
      let e : suc last - 1 ≡ last = omega arith in
      rw (le-leb _ _ h, e)

-- ---- the loop

-- a search before which k cycles were looked at
abbrev ahead : ℕ → Search → Search
ahead k s = record { found = s.found; count = k + s.count }

-- k cycles were looked at, back to row `to`, and what is left of the search decides
pub record Going (r : ℕ → Cells) (x : Context) (row limit to k : ℕ) : Type 0 where
  pub back : to ≤ row
  pub within : k ≤ limit
  pub rest : ahead k (search_back r x (limit - k) to) ≡ search_back r x limit row

-- the search begins at the row itself
pub going_first : (r : ℕ → Cells) (x : Context) (row limit : ℕ) → Going r x row limit row 0
going_first r x row limit = record { back = omega arith; within = omega arith; rest = rw (sub-zero, zero-add) }

row_before_lem : (r : ℕ → Cells) (to : ℕ) → to ≢ 0 → row_before r to ≡ r (to - 1)
row_before_lem r zero later = absurd (later refl)
row_before_lem r (suc last) later =
    let e : suc last - 1 ≡ last = omega arith in
    rw e

module _ {r : ℕ → Cells} {x : Context} {row limit to k : ℕ} (g : Going r x row limit to k) where
  -- it ends at the limit
  pub ends_at_limit : k ≡ limit → none_in k ≡ search_back r x limit row
  unfolding search_back
  ends_at_limit e =
      let none : limit - k ≡ 0 = omega arith in
      rw (none, add-zero) at g.rest

  ends : to < cycle_rows (row_before r to) → none_in k ≡ search_back r x limit row
  ends h = rw (search_part r x (limit - k) to h, add-zero) at g.rest

  -- it ends where no row is left
  pub ends_at_start : to ≡ 0 → none_in k ≡ search_back r x limit row
  ends_at_start e = ends (rw e (omega arith))

  -- the row before shows a cycle of n rows
  module _ {n : ℕ} (later : to ≢ 0) (rows : n ≡ cycle_rows (r (to - 1))) where
    -- it ends where they are not all there
    pub ends_at_part : to < n → none_in k ≡ search_back r x limit row
    ends_at_part h = ends (rw (row_before_lem r to later, ← rows) h)

    module _ (some : k ≢ limit) (whole : n ≤ to) where
      turn : ahead k (pick (same_context (context_of (r (to - 1))) x) (found_at (to - 1)) (one_more (search_back r x (limit - (k + 1)) (to - n))))
          ≡ search_back r x limit row
      turn =
          let a : limit - k ≡ suc (limit - (k + 1)) = omega arith in
          let b : suc (to - 1) ≡ to = omega arith in
          rw (a, rw (b, ← rows) at (search_whole r x (limit - (k + 1)) (to - 1) (omega arith))) at g.rest

      -- a cycle with the context is found
      pub finds : same_context (context_of (r (to - 1))) x ≡ true → record { found = Some (to - 1); count = k + 1 } ≡ search_back r x limit row
      finds e = rw e at turn

      -- from one with another context the search goes on
      pub goes_on : same_context (context_of (r (to - 1))) x ≡ false → Going r x row limit (to - n) (k + 1)
      goes_on e =
          let more : ℕ = (search_back r x (limit - (k + 1)) (to - n)).count in
          let f : k + suc more ≡ k + 1 + more = omega arith in
          record { back = omega (arith, g.back); within = omega (arith, g.within); rest = rw (e, f) at turn }

-- ---- what is found

found-by : (t u : Bool) (n to i : ℕ) (rest : Search) → 0 < n → (t ≡ true → n ≤ to) → (rest.found ≡ Some i → i < to - n)
    → (pick t (pick u (found_at (to - 1)) (one_more rest)) (none_in 0)).found ≡ Some i → i < to
found-by true true n to i rest p h k e =
    let same : to - 1 ≡ i = cc in
    omega (arith, h refl)
found-by true false n to i rest p h k e = omega (arith, k e)
found-by false u n to i rest p h k e = cc

-- a found row stands before the row from which the search goes
pub found_before : (r : ℕ → Cells) (x : Context) (limit to i : ℕ) → (search_back r x limit to).found ≡ Some i → i < to
unfolding search_back
found_before r x zero to i e = cc
found_before r x (suc limit) to i e =
    let n : ℕ = cycle_rows (row_before r to) in
    found-by (leb n to) (same_context (context_of (row_before r to)) x) n to i (search_back r x limit (to - n)) (omega arith) (leb-true n to)
    (found_before r x limit (to - n) i) e

-- so it stands in the bytes of those rows
pub found_inside : (r : ℕ → Cells) (x : Context) (limit to bytes : ℕ) (f : Option ℕ) → (search_back r x limit to).found ≡ f
    → to * row_bytes ≤ bytes → found_in bytes f
found_inside r x limit to bytes (Some i) e h = omega (arith, found_before r x limit to i e)
found_inside r x limit to bytes None e h = tt

-- the look-up answers by what the search finds
pub look_by_found : (r : ℕ → Cells) (x : Context) (limit to : ℕ) {s : Search} {a : State} → s ≡ search_back r x limit to
    → a ≡ state_found r s.found → record { state = a; cycles = s.count } ≡ look_back r x limit to
unfolding look_back
look_by_found r x limit to p e = rw (← p, e)

-- ---- the limit

-- what is left of a search that may look at m cycles only
abbrev pub limited_to : ℕ → Search → Search
limited_to m s = pick (leb s.count m) s (none_in m)

limited_none : (t u : Bool) (i : ℕ) (rest : Search) → none_in 0 ≡ limited_to 0 (pick t (pick u (found_at i) (one_more rest)) (none_in 0))
limited_none true true i rest = refl
limited_none true false i rest = rw (leb-suc-zero rest.count)
limited_none false u i rest = refl

limited_more : (t u : Bool) (i m : ℕ) (less rest : Search) → less ≡ limited_to m rest
    → pick t (pick u (found_at i) (one_more less)) (none_in 0) ≡ limited_to (suc m) (pick t (pick u (found_at i) (one_more rest)) (none_in 0))
limited_more true true i m less rest e = rw (leb-suc-suc 0 m, leb-zero m)
limited_more true false i m less rest e = rw (e, leb-suc-suc rest.count m) (sym (pick_under one_more (leb rest.count m) _ _))
limited_more false u i m less rest e = rw (leb-zero (suc m))

-- with a lower limit the search answers the same if that many cycles are enough; else it finds nothing in so many
pub lower_limit : (r : ℕ → Cells) (x : Context) (m limit to : ℕ) → m ≤ limit → search_back r x m to ≡ limited_to m (search_back r x limit to)
unfolding search_back
lower_limit r x zero zero to h = refl
lower_limit r x zero (suc limit) to h =
    limited_none (leb (cycle_rows (row_before r to)) to) (same_context (context_of (row_before r to)) x) (to - 1) _
lower_limit r x (suc m) zero to h = absurd (omega arith)
lower_limit r x (suc m) (suc limit) to h =
    let n : ℕ = cycle_rows (row_before r to) in
    limited_more (leb n to) (same_context (context_of (row_before r to)) x) (to - 1) m _ _
    (lower_limit r x m limit (to - n) (le_of_suc-le-suc h))

-- no more cycles are looked at than the limit allows
pub count-within : (r : ℕ → Cells) (x : Context) (limit to : ℕ) → (search_back r x limit to).count ≤ limit
count-within r x limit to = go (leb s.count limit) refl (lower_limit r x limit limit to (omega arith))
  where
    s : Search
    s = search_back r x limit to

    go : (t : Bool) → leb s.count limit ≡ t → s ≡ pick t s (none_in limit) → s.count ≤ limit
    go true e f = leb-true s.count limit e
    go false e f = omega (arith, ap (λ (a : Search). a.count) f)
