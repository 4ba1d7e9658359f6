-- What the checker knows before a cycle gives the state that the cycle starts at, and with a cycle that stands what it knows behind it.
use Prim.Native.Nat.{ℕ, zero, suc, ◌+◌, ◌-◌, ◌^◌, ◌≤◌, ◌<◌}
use mathlib.Core.Bool.{Bool, true, false, not, ◌&&◌}
use mathlib.Core.Logic.{◌≢◌}
use mathlib.Core.Path.{◌≡◌, refl, sym, ◌∙◌, ap}
use native.Mathlib.Decide.{dec_lt}
use native.Mathlib.Numerals.{add-one}
use native.Mathlib.Omega.{arith}
use borrow.Author.Tests.{leb-true, eqb-false, ne_eqb, le-leb, lt-leb, not-true}
use lib.Dec.{eqb, leb}
use lib.ListN.{replicate}
use mir.Val.{bool_byte}
use Rattle.number.proofs.TestLaws.{both}
use Rattle.model.specs.Columns.{Cells, columns, cells_in, empty_row, table}
use Rattle.model.specs.Constraints.{in_use, out_last}
use Rattle.model.specs.Cycles.{Claim, Counts, starts, counts}
use Rattle.model.specs.Promises.{ValidClaim}
use Rattle.model.specs.State.{Context, State, Sound}
use Rattle.model.specs.Tests.{pick, bit, zeros}
use Rattle.model.specs.Trace.{in_bounds, last_of, row_of, with_cycle}
use Rattle.model.specs.Verdict.{before}
use Rattle.model.proofs.OneCycle.{Ready, CycleAt, ready_first, ready_next, counts_cycle}
use Rattle.model.proofs.TestFacts.{pick_has}
use Rattle.model.proofs.VerdictLaws.{judged_meet}
use Rattle.compare.specs.Same.{cycle_stands}
use Rattle.compare.proofs.SameLaws.{cycle_stands_lem}
use Rattle.compare.proofs.ZeroLaws.{zeros_empty}
use Rattle.recent.specs.Notes.{slots, Span, Recent, noted, Known, recalled}
use Rattle.recent.proofs.NoteLaws.{known_none, known_cycle, recalled-before}
use Rattle.count.proofs.CountLaws.{Below, counts-none, counts_next, counts-below}
use Rattle.checker.specs.Steps.{empty_from, leading_empty, cycle_next}

-- ---- empty rows

module _ (r : ℕ → Cells) where
  -- a row of zeros is passed
  pub passes_empty : (i n : ℕ) → i < n → zeros (cells_in columns (r i)) ≡ true → empty_from r (i + 1) (n - (i + 1)) ≡ empty_from r i (n - i)
  unfolding empty_from
  passes_empty i n h e =
      let more : n - i ≡ suc (n - (i + 1)) = omega arith in
      rw (more, e, add-one i)

  -- any other ends them
  pub ends_empty : (i n : ℕ) → i < n → zeros (cells_in columns (r i)) ≡ false → i ≡ empty_from r i (n - i)
  unfolding empty_from
  ends_empty i n h e =
      let more : n - i ≡ suc (n - (i + 1)) = omega arith in
      rw (more, e)

  -- and so does the last
  pub all_empty : (i n : ℕ) → n ≤ i → i ≡ empty_from r i (n - i)
  unfolding empty_from
  all_empty i n h =
      let none : n - i ≡ 0 = omega arith in
      rw none

  -- there are no more of them than rows
  pub empty_within : (n i : ℕ) → empty_from r i n ≤ i + n
  unfolding empty_from
  empty_within zero i = omega arith
  empty_within (suc n) i =
      pick_has (λ (k : ℕ). k ≤ i + suc n) (zeros (cells_in columns (r i))) (λ e. omega (arith, empty_within n (suc i))) (λ e. omega arith)

  -- each of them is empty
  pub empty_below : (n i j : ℕ) → i ≤ j → j < empty_from r i n → r j ≡ empty_row
  unfolding empty_from
  empty_below zero i j l h = absurd (omega arith)
  empty_below (suc n) i j l h = by (zeros (cells_in columns (r i))) refl h (empty_below n (suc i) j) (dec_lt i j)
    where
      by : (t : Bool) → zeros (cells_in columns (r i)) ≡ t → j < pick t (empty_from r (suc i) n) i
          → (suc i ≤ j → j < empty_from r (suc i) n → r j ≡ empty_row) → Dec (i < j) → r j ≡ empty_row
      by true e h rest (yes later) = rest later h
      by true e h rest (no here) =
          let same : i ≡ j = omega arith in
          rw (← same) (zeros_empty (r i) e)
      by false e h rest d = absurd (omega arith)

-- so many empty rows and nothing else
abbrev pub only_empty : ℕ → Counts
only_empty e = record { instructions = 0; oob = 0; empty = e }

-- they are counted
pub counts_empty : (r : ℕ → Cells) (e : ℕ) → ((j : ℕ) → j < e → r j ≡ empty_row) → only_empty e ≡ counts (table e r)
unfolding starts in_use
counts_empty r zero empty = sym (counts-none r)
counts_empty r (suc e) empty =
    let rest = counts_empty r e (λ j h. empty j (omega arith)) in
    rw (counts_next r e, ← rest, empty e (omega arith), add-one e)

-- and nothing is noted of them
pub known_empty : (s : Span) (r : ℕ → Cells) (e : ℕ) → ((j : ℕ) → j < e → r j ≡ empty_row) → Known (replicate slots 0) s r e
unfolding in_use
known_empty s r e empty = known_none s r e (λ j h. rw (empty j h))

-- ---- from cycle to cycle

-- Before row i of n the rows are empty ones and whole cycles: they meet all constraints, so that a cycle may start, and they are noted and counted.
pub record Walked (r : ℕ → Cells) (n : ℕ) (p : Recent) (done : Counts) (i : ℕ) : Type 0 where
  pub within : i ≤ n
  pub ready : Ready r n i done.instructions
  pub known : Known p.notes p.span r i
  pub counted : done ≡ counts (table i r)

-- behind empty rows
pub walked-first : (r : ℕ → Cells) (n : ℕ) (span : Span) → 0 < leading_empty r n
    → Walked r n (record { notes = replicate slots 0; span = span }) (only_empty (leading_empty r n)) (leading_empty r n)
walked-first r n span some =
    let empty : (j : ℕ) → j < leading_empty r n → r j ≡ empty_row = λ j h. empty_below r n 0 j (omega arith) h in
    record {
      within = omega (arith, empty_within r n 0);
      ready = ready_first r n (leading_empty r n) empty some;
      known = known_empty span r (leading_empty r n) empty;
      counted = counts_empty r (leading_empty r n) empty;
    }

-- ---- whether a cycle stands, test by test

module _ (r : ℕ → Cells) (n : ℕ) (p : Recent) (i cycles : ℕ) (c : Claim) where
  -- the claim has no context
  pub no_context : c.context.cn ≡ 0 → false ≡ cycle_next r n p i cycles c
  unfolding cycle_next
  no_context e = rw e

  -- fewer rows are left than its cycle has
  pub no_room : n < i + suc (last_of c) → false ≡ cycle_next r n p i cycles c
  unfolding cycle_next
  no_room h = rw (lt-leb (i + suc (last_of c)) n h) (by (not (eqb c.context.cn 0)) _)
    where
      by : (t u : Bool) → false ≡ (t && false && u)
      by true u = refl
      by false u = refl

  -- else the comparison decides, at the next stamp and the recalled state
  pub compared : {t : Bool} {stamp : ℕ} {s : State} → c.context.cn ≢ 0 → i + suc (last_of c) ≤ n → stamp ≡ suc cycles
      → s ≡ recalled r p.notes p.span c.context → t ≡ cycle_stands r i stamp s c → t ≡ cycle_next r n p i cycles c
  unfolding cycle_next
  compared some room next own e = rw (ne_eqb c.context.cn 0 some, le-leb (i + suc (last_of c)) n room, ← next, ← own) e

module _ {r : ℕ → Cells} {n : ℕ} {p : Recent} {done : Counts} {i : ℕ} (w : Walked r n p done i) where
  abbrev k : ℕ
  k = done.instructions

  -- there are no more cycles than rows
  pub walked_few : Below i done
  walked_few = rw w.counted (counts-below r i)

  -- the state that is recalled is the one before the row
  recalls : (x : Context) → recalled r p.notes p.span x ≡ before r i x
  recalls x = recalled-before w.known n ((judged_meet r n i).0 w.ready.meets) x

  -- so it is sound
  pub recalls_sound : (x : Context) → Sound (recalled r p.notes p.span x)
  recalls_sound x = rw (recalls x) (w.ready.sound x)

  module _ (c : Claim) (next : cycle_next r n p i done.instructions c ≡ true) where
    abbrev stands : Bool
    stands = cycle_stands r i (suc k) (recalled r p.notes p.span c.context) c

    tests : ((not (eqb c.context.cn 0) ≡ true) × (leb (i + suc (last_of c)) n ≡ true)) × (stands ≡ true)
    unfolding cycle_next
    tests =
        let (front, there) = both (not (eqb c.context.cn 0) && leb (i + suc (last_of c)) n) stands next in
        (both (not (eqb c.context.cn 0)) (leb (i + suc (last_of c)) n) front, there)

    -- the rows of a cycle that stands are there
    pub next_fits : i + suc (last_of c) ≤ n
    next_fits = leb-true (i + suc (last_of c)) n tests.0.1

    there : CycleAt r i (suc k) c
    there j h = cycle_stands_lem r i (suc k) _ c tests.1 j h ∙ ap (λ (s : State). row_of (suc k) s c j) (recalls c.context)

    -- behind it the next may start; its last row is noted, its context is in the span, and it is counted
    pub walked_next : {q : Recent} {more : Counts} {end : ℕ} → c.context.cn < 2 ^ 32 → c.end1 < 256 ^ 17 → c.end2 < 256 ^ 17
        → q ≡ noted p c.context (i + last_of c) → more ≡ with_cycle done c → end ≡ i + suc (last_of c)
        → Walked r n q more end
    walked_next cn end1 end2 d s e =
        let some : c.context.cn ≢ 0 = eqb-false c.context.cn 0 (not-true (eqb c.context.cn 0) tests.0.0) in
        let valid : ValidClaim c = record { some = omega arith; cn = cn; end1 = end1; end2 = end2 } in
        rw (d, s, e)
        (record {
          within = next_fits;
          ready = rw (add-one k) (ready_next r n k c valid i w.ready next_fits there);
          known = known_cycle w.known w.ready.some k (before r i c.context) c there;
          counted = ap (λ (x : Counts). with_cycle x c) w.counted ∙ sym (counts_cycle r i k c there);
        })

-- a claim is out of bounds where its cycle has so many rows
pub long_out : (c : Claim) → bool_byte (eqb (suc (last_of c)) (suc out_last)) ≡ bit (not (in_bounds c))
unfolding last_of
long_out c = by (in_bounds c) refl
  where
    by : (t : Bool) → in_bounds c ≡ t → bool_byte (eqb (suc (last_of c)) (suc out_last)) ≡ bit (not t)
    by true e = rw e
    by false e = rw e
