-- What is known of the rows, row by row, and the state that it shows: where the look-up answers the model's state before the row, it is that state.
use Prim.Native.Nat.{ℕ, zero, suc, ◌+◌, ◌-◌, ◌*◌, ◌≤◌, ◌<◌}
use mathlib.Core.Bool.{Bool, true, false, false≢true, ◌&&◌, ◌||◌}
use mathlib.Core.List.{List}
use mathlib.Core.Logic.{◌≢◌, inr}
use mathlib.Core.Path.{◌≡◌, refl, sym, ◌∙◌}
use native.Mathlib.Decide.{dec_lt}
use native.Mathlib.Nat.{add-suc, add-zero, le_step, lt-suc_self}
use native.Mathlib.Omega.{arith}
use borrow.Author.Tests.{eqb-true, eqb-false}
use lib.Dec.{eqb}
use lib.ListN.{get_or, set, replicate, length-set, length-replicate, get_or-replicate}
use lib.Seq.{get_or-set_same, get_or-set_other}
use Rattle.model.specs.Columns.{Cells, row_bytes}
use Rattle.model.specs.Constraints.{last_ct, in_use}
use Rattle.model.specs.Cycles.{Claim}
use Rattle.model.specs.State.{Context, State, same_context, context_of, state_of, start, put}
use Rattle.model.specs.Tests.{pick}
use Rattle.model.specs.Trace.{last_of, row_of}
use Rattle.model.specs.Verdict.{passed, before}
use Rattle.model.proofs.ReadBack.{is_row, last_of_row, row-used}
use Rattle.model.proofs.TestFacts.{eqb_self, pick_has, pick_second}
use Rattle.state.specs.Order.{lower_context}
use Rattle.state.proofs.LookLaws.{HoldBefore, look-before}
use Rattle.state.proofs.OrderLaws.{lower_self, lower_trans, told-apart}
use Rattle.recent.specs.Notes.{slots, slot_of, latest, Span, outside, wider, Known, shown, noted_in, look_from, recalled}

-- ---- the latest row of an entry

-- the rows from row i to row i + m are in use and have the context
abbrev Run : (ℕ → Cells) → (i m : ℕ) → Context → Type 0
Run r i m x = (j : ℕ) → j ≤ m → (in_use (r (i + j)) ≡ true) × (context_of (r (i + j)) ≡ x)

pick_later : (t : Bool) (a b c : ℕ) → pick t a (pick t b c) ≡ pick t a c
pick_later true a b c = refl
pick_later false a b c = refl

module _ (r : ℕ → Cells) (slot : ℕ) where
  latest-le : (i : ℕ) → latest r slot i ≤ i - 1
  unfolding latest
  latest-le zero = omega arith
  latest-le (suc i) =
      pick_has (λ (k : ℕ). k ≤ suc i - 1) (in_use (r i) && eqb (slot_of (context_of (r i))) slot) (λ e. omega arith) (λ e. omega (arith, latest-le i))

  latest_in_use : (i : ℕ) → latest r slot i ≢ 0 → in_use (r (latest r slot i)) ≡ true
  unfolding latest
  latest_in_use zero some = absurd (some refl)
  latest_in_use (suc i) some = by (in_use (r i)) (eqb (slot_of (context_of (r i))) slot) refl (latest_in_use i) some
    where
      by : (t u : Bool) → in_use (r i) ≡ t → (latest r slot i ≢ 0 → in_use (r (latest r slot i)) ≡ true)
          → let k : ℕ = pick (t && u) i (latest r slot i) in k ≢ 0 → in_use (r k) ≡ true
      by true true used rest later = used
      by true false used rest later = rest later
      by false u used rest later = rest later

  latest_same : (q : ℕ → Cells) (i : ℕ) → ((j : ℕ) → j < i → q j ≡ r j) → latest q slot i ≡ latest r slot i
  unfolding latest
  latest_same q zero same = refl
  latest_same q (suc i) same = rw (same i (lt-suc_self i), latest_same q i (λ j h. same j (le_step h)))

  latest_unused : (i : ℕ) → in_use (r i) ≡ false → latest r slot (suc i) ≡ latest r slot i
  unfolding latest
  latest_unused i u = rw u

  latest-used : (i : ℕ) (x : Context) → in_use (r i) ≡ true → context_of (r i) ≡ x
      → latest r slot (suc i) ≡ pick (eqb (slot_of x) slot) i (latest r slot i)
  unfolding latest
  latest-used i x used own = rw (used, ← own)

  latest-none : (i : ℕ) → ((j : ℕ) → j < i → in_use (r j) ≡ false) → latest r slot i ≡ 0
  unfolding latest
  latest-none zero none = refl
  latest-none (suc i) none = latest_unused i (none i (lt-suc_self i)) ∙ latest-none i (λ j h. none j (le_step h))

  latest-run : (i m : ℕ) (x : Context) → Run r i m x → latest r slot (i + suc m) ≡ pick (eqb (slot_of x) slot) (i + m) (latest r slot i)
  latest-run i zero x run =
      let (used, own) = run 0 (omega arith) in
      rw (add-suc, add-zero) (latest-used i x (rw add-zero at used) (rw add-zero at own))
  latest-run i (suc m) x run =
      let (used, own) = run (suc m) (omega arith) in
      rw (add-suc i (suc m)) (latest-used (i + suc m) x used own ∙ rw (latest-run i m x (λ j h. run j (le_step h))) (pick_later (eqb (slot_of x) slot) _ _ _))

-- ---- the span

not_so : (t : Bool) → (t ≡ true → false ≡ true) → t ≡ false
not_so true h = sym (h refl)
not_so false h = refl

neither : (t u : Bool) → (t || u) ≡ false → (t ≡ false) × (u ≡ false)
neither true u e = absurd (false≢true (sym e))
neither false u e = (refl, e)

-- a context that is not lower than another is not lower than one that is; and so for higher
module _ (x y z : Context) where
  above_lower : lower_context x z ≡ true → lower_context y z ≡ false → lower_context y x ≡ false
  above_lower l n = not_so (lower_context y x) (λ e. sym n ∙ lower_trans y x z e l)

  below_higher : lower_context z x ≡ true → lower_context z y ≡ false → lower_context x y ≡ false
  below_higher l n = not_so (lower_context x y) (λ e. sym n ∙ lower_trans z x y l e)

module _ (s : Span) (x : Context) where
  -- the span holds what it held
  stays_inside : (y : Context) → outside s y ≡ false → outside (wider s x) y ≡ false
  unfolding outside
  stays_inside y e =
      let (low, high) = neither (lower_context y s.lowest) (lower_context s.highest y) e in
      rw (pick_has (λ (z : Context). lower_context y z ≡ false) (lower_context x s.lowest) (λ l. above_lower x y s.lowest l low) (λ n. low))
      (pick_has (λ (z : Context). lower_context z y ≡ false) (lower_context s.highest x) (λ l. below_higher x y s.highest l high) (λ n. high))

  -- and the new one
  new_inside : outside (wider s x) x ≡ false
  unfolding outside
  new_inside =
      rw (pick_has (λ (z : Context). lower_context x z ≡ false) (lower_context x s.lowest) (λ l. lower_self x) (λ n. n))
      (pick_has (λ (z : Context). lower_context z x ≡ false) (lower_context s.highest x) (λ l. lower_self x) (λ n. n))

-- ---- what is known

-- over rows that are not in use all entries are 0, and any span will do
pub known_none : (s : Span) (r : ℕ → Cells) (i : ℕ) → ((j : ℕ) → j < i → in_use (r j) ≡ false) → Known (replicate slots 0) s r i
known_none s r i none = record {
  size = length-replicate {A = ℕ} slots 0;
  entry = λ slot h. get_or-replicate slots slot 0 0 h ∙ sym (latest-none r slot i none);
  first = none 0;
  ends = λ slot some. absurd (some (latest-none r slot i none));
  inside = λ j h used. absurd (false≢true (sym (none j h) ∙ used));
}

slot_lt : (x : Context) → slot_of x < slots
slot_lt x = omega arith

module _ {l : List ℕ} {s : Span} {r : ℕ → Cells} {i : ℕ} (known : Known l s r i) where
  -- the noted rows are some of those before
  pub noted_in_lem : (bytes : ℕ) → 0 < i → i * row_bytes ≤ bytes → noted_in bytes l
  noted_in_lem bytes some h slot m =
      let k : get_or l slot 0 ≤ i - 1 = rw (known.entry slot m) (latest-le r slot i) in
      omega arith

  -- the same is known of other rows, where these are the same before row i
  pub known_same : (q : ℕ → Cells) → ((j : ℕ) → j < i → q j ≡ r j) → Known l s q i
  known_same q same = record {
    size = known.size;
    entry = λ slot h. known.entry slot h ∙ sym (latest_same r slot q i same);
    first = λ some. rw (same 0 some) (known.first some);
    ends = λ slot. rw (latest_same r slot q i same) (λ some. ends_by slot some);
    inside = λ j h. rw (same j h) (known.inside j h);
  }
    where
      ends_by : (slot : ℕ) → latest r slot i ≢ 0 → (q (latest r slot i)).ct ≡ last_ct (q (latest r slot i)).ooob
      ends_by slot some = rw (same (latest r slot i) (omega (arith, latest-le r slot i))) (known.ends slot some)

  -- of rows in use with one context the last, which ends their cycle, is noted, and the context is in the span
  known_run : 0 < i → (x : Context) (m : ℕ) → Run r i m x → (r (i + m)).ct ≡ last_ct (r (i + m)).ooob
      → Known (set l (slot_of x) (i + m)) (wider s x) r (i + suc m)
  known_run some x m run last = record {
    size = length-set l (slot_of x) (i + m) ∙ known.size;
    entry = λ slot h. entry-by slot h (eqb (slot_of x) slot) refl ∙ sym (latest-run r slot i m x run);
    first = λ more. known.first some;
    ends = λ slot. rw (latest-run r slot i m x run) (ends_by slot (eqb (slot_of x) slot));
    inside = λ j h used. inside_by j h used (dec_lt j i);
  }
    where
      entry-by : (slot : ℕ) → slot < slots → (t : Bool) → eqb (slot_of x) slot ≡ t
          → get_or (set l (slot_of x) (i + m)) slot 0 ≡ pick (eqb (slot_of x) slot) (i + m) (latest r slot i)
      entry-by slot h true e = rw (e, ← eqb-true (slot_of x) slot e) (get_or-set_same l (slot_of x) (i + m) 0 (rw known.size (slot_lt x)))
      entry-by slot h false e = rw e (get_or-set_other l (slot_of x) slot (i + m) 0 (λ q. eqb-false (slot_of x) slot e (sym q)) ∙ known.entry slot h)

      ends_by : (slot : ℕ) (t : Bool) → let k : ℕ = pick t (i + m) (latest r slot i) in k ≢ 0 → (r k).ct ≡ last_ct (r k).ooob
      ends_by slot true later = last
      ends_by slot false later = known.ends slot later

      inside_by : (j : ℕ) → j < i + suc m → in_use (r j) ≡ true → Dec (j < i) → outside (wider s x) (context_of (r j)) ≡ false
      inside_by j h used (yes b) = stays_inside s x (context_of (r j)) (known.inside j b used)
      inside_by j h used (no b) =
          let place : i + (j - i) ≡ j = omega arith in
          rw (rw place at (run (j - i) (omega arith)).1) (new_inside s x)

  -- so it is behind the cycle of a claim
  pub known_cycle : 0 < i → (k : ℕ) (st : State) (c : Claim) → ((j : ℕ) → j ≤ last_of c → r (i + j) ≡ row_of (suc k) st c j)
      → Known (set l (slot_of c.context) (i + last_of c)) (wider s c.context) r (i + suc (last_of c))
  known_cycle some k st c rows = known_run some c.context (last_of c) run last
    where
      run : Run r i (last_of c) c.context
      run j h = rw (rows j h) (row-used k st c j, (is_row (suc k) st c j).context)

      last : (r (i + last_of c)).ct ≡ last_ct (r (i + last_of c)).ooob
      last = rw (rows (last_of c) (omega arith)) ((is_row (suc k) st c (last_of c)).ct ∙ sym (last_of_row (suc k) st c (last_of c)))

-- ---- the state before a row

module _ (r : ℕ → Cells) (x : Context) where
  -- a context outside of the span of the rows in use before row i has no earlier instruction
  new_context : (s : Span) → outside s x ≡ true → (i : ℕ) → ((j : ℕ) → j < i → in_use (r j) ≡ true → outside s (context_of (r j)) ≡ false)
      → before r i x ≡ start
  unfolding before passed put
  new_context s out zero inside = refl
  new_context s out (suc i) inside = by (in_use (r i)) refl (new_context s out i (λ j h. inside j (le_step h)))
    where
      by : (t : Bool) → in_use (r i) ≡ t → before r i x ≡ start → pick t (put (before r i) (context_of (r i)) (state_of (r i))) (before r i) x ≡ start
      by true u rest = rw (told-apart (outside s) (context_of (r i)) x (inside i (lt-suc_self i) u) out) rest
      by false u rest = rest

  -- behind the latest row of its entry no row in use has the context
  since_latest : (i : ℕ) → latest r (slot_of x) i ≢ 0 → before r i x ≡ before r (suc (latest r (slot_of x) i)) x
  unfolding latest before passed put
  since_latest zero some = absurd (some refl)
  since_latest (suc i) some = by (in_use (r i)) (eqb (slot_of (context_of (r i))) (slot_of x)) refl refl (since_latest i) some
    where
      by : (t u : Bool) → in_use (r i) ≡ t → eqb (slot_of (context_of (r i))) (slot_of x) ≡ u
          → (latest r (slot_of x) i ≢ 0 → before r i x ≡ before r (suc (latest r (slot_of x) i)) x)
          → pick (t && u) i (latest r (slot_of x) i) ≢ 0
          → pick t (put (before r i) (context_of (r i)) (state_of (r i))) (before r i) x ≡ before r (suc (pick (t && u) i (latest r (slot_of x) i))) x
      by false u used e rest later = rest later
      by true true used e rest later = rw used
      by true false used e rest later =
          rw (told-apart (λ (y : Context). eqb (slot_of y) (slot_of x)) (context_of (r i)) x e (eqb_self (slot_of x))) (rest later)

  -- where there is none, the context has no earlier instruction
  none-latest : (i : ℕ) → (0 < i → in_use (r 0) ≡ false) → latest r (slot_of x) i ≡ 0 → before r i x ≡ start
  unfolding latest before passed put
  none-latest zero first e = refl
  none-latest (suc i) first e = by (in_use (r i)) (eqb (slot_of (context_of (r i))) (slot_of x)) refl refl (none-latest i (λ some. first (omega arith))) e
    where
      by : (t u : Bool) → in_use (r i) ≡ t → eqb (slot_of (context_of (r i))) (slot_of x) ≡ u → (latest r (slot_of x) i ≡ 0 → before r i x ≡ start)
          → pick (t && u) i (latest r (slot_of x) i) ≡ 0 → pick t (put (before r i) (context_of (r i)) (state_of (r i))) (before r i) x ≡ start
      by false u used f rest none = rest none
      by true true used f rest none = absurd (false≢true (sym (first (omega arith)) ∙ rw none at used))
      by true false used f rest none =
          rw (told-apart (λ (y : Context). eqb (slot_of y) (slot_of x)) (context_of (r i)) x f (eqb_self (slot_of x))) (rest none)

  -- the row that is noted leaves the state that its context has behind it
  own_state : (k : ℕ) → in_use (r k) ≡ true → same_context (context_of (r k)) x ≡ true → before r (suc k) x ≡ state_of (r k)
  unfolding before passed put
  own_state k used same = rw (used, same)

-- where the rows before row i meet the constraints, what is known shows the state before it
module _ {l : List ℕ} {s : Span} {r : ℕ → Cells} {i : ℕ} (known : Known l s r i) (n : ℕ) (hold : HoldBefore r n i) (x : Context) where
  abbrev k : ℕ
  k = latest r (slot_of x) i

  looks : k ≢ 0 → look_from r x k ≡ before r (suc k) x
  looks some = look-before r n x (suc k) (λ j h. hold j (omega (arith, latest-le r (slot_of x) i))) (inr (known.ends (slot_of x) some))

  shows : (t : Bool) → eqb k 0 ≡ t → pick t start (pick (same_context (context_of (r k)) x) (state_of (r k)) (look_from r x k)) ≡ before r i x
  shows true e = sym (none-latest r x i known.first (eqb-true k 0 e))
  shows false e =
      let some : k ≢ 0 = eqb-false k 0 e in
      rw (since_latest r x i some, looks some)
      (pick_second (same_context (context_of (r k)) x) (state_of (r k)) (before r (suc k) x) (own_state r x k (latest_in_use r (slot_of x) i some)))

  pub recalled-before : recalled r l s x ≡ before r i x
  recalled-before = by (outside s x) refl
    where
      by : (t : Bool) → outside s x ≡ t → pick t start (shown r x (get_or l (slot_of x) 0) (look_from r x (get_or l (slot_of x) 0))) ≡ before r i x
      by true out = sym (new_context r x s out i known.inside)
      by false out = rw (known.entry (slot_of x) (slot_lt x)) (shows (eqb k 0) refl)
