-- Where the rows before hold the constraints, the look-up answers what the model does: the state before the row, and how many cycles it looks at.
use Prim.Native.Nat.{ℕ, zero, suc, ◌+◌, ◌-◌, ◌<◌}
use mathlib.Core.Bool.{Bool, true, false}
use mathlib.Core.Logic.{◌≢◌, ◌⊎◌, inl, inr}
use mathlib.Core.Path.{◌≡◌, refl, sym, ◌∙◌, ap}
use native.Mathlib.Decide.{ℕ_discrete}
use native.Mathlib.Nat.{le_step, lt-suc_self}
use native.Mathlib.Omega.{arith}
use borrow.Author.Tests.{eqb-true, ne_eqb}
use lib.Dec.{eqb-suc-zero}
use Rattle.std.specs.Prelude.{None}
use Rattle.model.specs.Columns.{Cells, table}
use Rattle.model.specs.Constraints.{last_ct, in_use, kept, k2, k3, k4, constraint}
use Rattle.model.specs.Cycles.{cycle_rows, Claim, Looked, starts, cycles_from, look, last_state}
use Rattle.model.specs.Promises.{AllHold}
use Rattle.model.specs.State.{Context, same_context, context_of, state_of, start}
use Rattle.model.specs.Steps.{stamp_moves, ct_moves}
use Rattle.model.specs.Tests.{pick}
use Rattle.model.specs.Verdict.{row_before, before}
use Rattle.model.proofs.ConstraintFacts.{says8}
use Rattle.model.proofs.CycleRows.{claim-kept, left-kept}
use Rattle.model.proofs.LatestCycle.{through, last_snoc, latest_cycle}
use Rattle.model.proofs.RowFacts.{in_use_lem, of_used}
use Rattle.model.proofs.StepLaws.{stamp_after_empty, stamp_inside, stamp_over, ct_inside, same_stamp_lem}
use Rattle.model.proofs.TableOf.{table_snoc}
use Rattle.model.proofs.TestFacts.{if_unequal_use}
use Rattle.state.specs.Look.{found_at, one_more, search_back, answered, look_back}
use Rattle.state.specs.declared.look.Search.{Search}
use Rattle.state.proofs.SearchLaws.{search_whole}

-- all constraints hold at the rows before row i of n
abbrev pub HoldBefore : (ℕ → Cells) → (n i : ℕ) → Type 0
HoldBefore r n i = (j : ℕ) → j < i → AllHold r n j

-- before row i no cycle has begun, or one ends with the row before
abbrev pub Between : (ℕ → Cells) → ℕ → Type 0
Between r i = ((row_before r i).stamp ≡ 0) ⊎ ((row_before r i).ct ≡ last_ct (row_before r i).ooob)

-- ---- from a row to the row before

stamp_before_empty : (s ct last t : ℕ) → stamp_moves s ct last t ≡ true → t ≡ 0 → s ≡ 0
stamp_before_empty s ct last t h e = go (ℕ_discrete s 0) (ℕ_discrete ct last)
  where
    go : Dec (s ≡ 0) → Dec (ct ≡ last) → s ≡ 0
    go (yes z) d = z
    go (no z) (yes k) = absurd (omega (arith, stamp_over s ct last t z k h))
    go (no z) (no k) = absurd (omega (arith, stamp_inside s ct last t z k h))

-- a row that starts a cycle has the next STAMP, and comes after an empty row or the last of a cycle
pub stamp_before_new : (s ct last t u : ℕ) → stamp_moves s ct last t ≡ true → ct_moves s ct t u ≡ true → t ≢ 0 → u ≡ 0
    → (t ≡ suc s) × ((s ≡ 0) ⊎ (ct ≡ last))
stamp_before_new s ct last t u h k used e = go (ℕ_discrete s 0) (ℕ_discrete ct last)
  where
    go : Dec (s ≡ 0) → Dec (ct ≡ last) → (t ≡ suc s) × ((s ≡ 0) ⊎ (ct ≡ last))
    go (yes z) d = (omega (arith, stamp_after_empty ct last t (rw z at h)), inl z)
    go (no z) (yes l) = (stamp_over s ct last t z l h, inr l)
    go (no z) (no l) = absurd (omega (arith, ct_inside s ct t u used (stamp_inside s ct last t z l h) k))

module _ (r : ℕ → Cells) (n : ℕ) where
  stamp_moves_lem : (i : ℕ) → AllHold r n i
      → stamp_moves (row_before r i).stamp (row_before r i).ct (last_ct (row_before r i).ooob) (r i).stamp ≡ true
  unfolding constraint k2 k3 stamp_moves
  stamp_moves_lem zero h = rw (eqb-true (r 0).stamp 0 (h 2 (omega arith) (omega arith)))
  stamp_moves_lem (suc i) h = if_unequal_use (suc i) 0 _ (h 3 (omega arith) (omega arith)) (λ e. absurd (omega arith))

  ct_moves_lem : (i : ℕ) → AllHold r n i → ct_moves (row_before r i).stamp (row_before r i).ct (r i).stamp (r i).ct ≡ true
  unfolding constraint k4
  ct_moves_lem i h = h 4 (omega arith) (omega arith)

  inside_kept : (i : ℕ) → AllHold r n i → (r i).stamp ≢ 0 → (r i).ct ≢ 0 → kept (r i) ≡ kept (row_before r i)
  unfolding constraint
  inside_kept i h used inside = says8 (row_before r i) (r i) (of_used (r i) used _ (h 8 (omega arith) (omega arith))) inside

module _ (r : ℕ → Cells) (n : ℕ) (x : Context) where
  -- the model's answer over the rows before row i
  abbrev answer : ℕ → Looked
  answer i = last_state (table i r) x

  answer-stays : (i : ℕ) → starts (r i) ≡ false → answer (suc i) ≡ answer i
  answer-stays i e = rw (table_snoc i r, last_snoc, e)

  answer-starts : (i : ℕ) → starts (r i) ≡ true → answer (suc i) ≡ through x (r i) (answer i)
  answer-starts i e = rw (table_snoc i r, last_snoc, e)

  -- ---- rows without a cycle

  empty_next : (i : ℕ) → AllHold r n i → (r i).stamp ≡ 0 → (answer (suc i) ≡ answer i) × ((row_before r i).stamp ≡ 0)
  unfolding starts in_use
  empty_next i h e = (answer-stays i (rw e), stamp_before_empty _ _ _ _ (stamp_moves_lem r n i h) e)

  none_yet : (i : ℕ) → HoldBefore r n i → (row_before r i).stamp ≡ 0 → answer i ≡ record { state = start; cycles = 0 }
  unfolding table last_state cycles_from look
  none_yet zero h e = refl
  none_yet (suc i) h e =
      let (same, z) = empty_next i (h i (lt-suc_self i)) e in
      same ∙ none_yet i (λ j l. h j (le_step l)) z

  -- ---- back over a cycle

  -- row i has CT c and STAMP suc s: the first row of its cycle, and the answer with the rows of the cycle up to row i
  record Inside (i c s : ℕ) : Type 0 where
    first : ℕ
    place : first + c ≡ i
    stamp : (row_before r first).stamp ≡ s
    between : Between r first
    answers : answer (suc i) ≡ through x (r i) (answer first)

  inside_first : (i s : ℕ) → AllHold r n i → (r i).stamp ≡ suc s → (r i).ct ≡ 0 → Inside i 0 s
  unfolding starts in_use
  inside_first i s h e z =
      let (t, between) = stamp_before_new _ _ _ _ _ (stamp_moves_lem r n i h) (ct_moves_lem r n i h) (λ u. absurd (omega arith)) z in
      record { first = i; place = omega arith; stamp = omega arith; between = between; answers = answer-starts i (rw (e, z, eqb-suc-zero s)) }

  inside_next : (i c s : ℕ) → AllHold r n (suc i) → (r (suc i)).stamp ≡ suc s → (r (suc i)).ct ≡ suc c
      → ((r i).stamp ≡ suc s) × ((r i).ct ≡ c) × (Inside i c s → Inside (suc i) (suc c) s)
  unfolding starts
  inside_next i c s h e z =
      let inside : (r (suc i)).ct ≢ 0 = λ u. absurd (omega arith) in
      let used : (r (suc i)).stamp ≢ 0 = λ u. absurd (omega arith) in
      let same : (r (suc i)).stamp ≡ (r i).stamp = same_stamp_lem _ _ _ _ inside (ct_moves_lem r n (suc i) h) in
      let next : (r (suc i)).ct ≡ suc (r i).ct = ct_inside _ _ _ _ used same (ct_moves_lem r n (suc i) h) in
      let keeps : kept (r (suc i)) ≡ kept (r i) = inside_kept r n (suc i) h used inside in
      let context : context_of (r (suc i)) ≡ context_of (r i) = ap (λ (a : Claim). a.context) (claim-kept (r (suc i)) (r i) keeps) in
      let state = left-kept (r (suc i)) (r i) keeps in (
        omega arith,
        omega arith,
        λ w. record {
          first = w.first;
          place = omega (arith, w.place);
          stamp = w.stamp;
          between = w.between;
          answers = answer-stays (suc i) (rw (in_use_lem (r (suc i)) used) (ne_eqb _ _ inside)) ∙ rw (context, state) w.answers;
        },
      )

  inside : (c i s : ℕ) → HoldBefore r n (suc i) → (r i).stamp ≡ suc s → (r i).ct ≡ c → Inside i c s
  inside zero i s h e z = inside_first i s (h i (lt-suc_self i)) e z
  inside (suc c) zero s h e z =
      absurd (omega (arith, same_stamp_lem _ _ _ _ (λ u. absurd (omega arith)) (ct_moves_lem r n 0 (h 0 (omega arith)))))
  inside (suc c) (suc i) s h e z =
      let (stamp, ct, back) = inside_next i c s (h (suc i) (lt-suc_self (suc i))) e z in
      back (inside c i s (λ j l. h j (le_step l)) stamp ct)

  -- ---- over all cycles

  -- row i is the last of a cycle with STAMP suc s
  abbrev Ends : (i s : ℕ) → Type 0
  Ends i s = ((r i).ct ≡ last_ct (r i).ooob) × Inside i (r i).ct s

  -- what holds where no cycle has begun and goes on over each cycle holds between any two, with the STAMP there
  module _ (P : (s i : ℕ) → Type 0) (none : (i : ℕ) → HoldBefore r n i → (row_before r i).stamp ≡ 0 → P 0 i)
      (over : (i s : ℕ) → (w : Ends i s) → P s w.1.first → P (suc s) (suc i)) where
    from_stamp : (s i : ℕ) → HoldBefore r n i → (row_before r i).stamp ≡ s → Between r i → P s i
    from_stamp zero i h e b = none i h e
    from_stamp (suc s) zero h e b = absurd (omega arith)
    from_stamp (suc s) (suc i) h e (inl z) = absurd (omega arith)
    from_stamp (suc s) (suc i) h e (inr last) =
        let w : Inside i (r i).ct s = inside (r i).ct i s h e refl in
        over i s (last, w) (from_stamp s w.first (λ j l. h j (omega (arith, w.place))) w.stamp w.between)

    over_cycles : (i : ℕ) → HoldBefore r n i → Between r i → P (row_before r i).stamp i
    over_cycles i h b = from_stamp (row_before r i).stamp i h refl b

  search_cycle : (i s : ℕ) → (w : Ends i s) → search_back r x (suc s) (suc i)
      ≡ pick (same_context (context_of (r i)) x) (found_at i) (one_more (search_back r x s w.1.first))
  search_cycle i s (last, w) =
      let back : suc i - cycle_rows (r i) ≡ w.first = omega (arith, w.place) in
      rw back at (search_whole r x s i (omega (arith, w.place)))

  -- ---- what the look-up answers

  answered_cycle : (t : Bool) (i : ℕ) (s : Search) → answered r (pick t (found_at i) (one_more s))
      ≡ pick t (record { state = state_of (r i); cycles = 1 }) (record { state = (answered r s).state; cycles = suc s.count })
  answered_cycle true i s = refl
  answered_cycle false i s = refl

  look_cycle : (i s : ℕ) → (w : Ends i s) → look_back r x s w.1.first ≡ answer w.1.first → look_back r x (suc s) (suc i) ≡ answer (suc i)
  unfolding look_back
  look_cycle i s w e = rw (search_cycle i s w, answered_cycle, w.1.answers) (ap (through x (r i)) e)

  -- with the STAMP of the row before as the limit, it is the model's answer to the last-state question over the rows before
  pub look_is_last : (i : ℕ) → HoldBefore r n i → Between r i → look_back r x (row_before r i).stamp i ≡ last_state (table i r) x
  unfolding look_back search_back
  look_is_last = over_cycles (λ s i. look_back r x s i ≡ answer i) (λ i h e. sym (none_yet i h e)) look_cycle

  -- and its state is the model's state before the row, which constraint 9 looks at
  pub look-before : (i : ℕ) → HoldBefore r n i → Between r i → (look_back r x (row_before r i).stamp i).state ≡ before r i x
  look-before i h b = ap (λ (a : Looked). a.state) (look_is_last i h b) ∙ sym (latest_cycle r n i h x)

  -- ---- where nothing is found

  -- a search that finds nothing has looked at s cycles
  abbrev NoneInAll : ℕ → Search → Type 0
  NoneInAll s a = a.found ≡ None → a.count ≡ s

  none_more : (t : Bool) (i s : ℕ) (rest : Search) → NoneInAll s rest → NoneInAll (suc s) (pick t (found_at i) (one_more rest))
  none_more true i s rest h e = cc
  none_more false i s rest h e = ap suc (h e)

  none_cycle : (i s : ℕ) → (w : Ends i s) → NoneInAll s (search_back r x s w.1.first) → NoneInAll (suc s) (search_back r x (suc s) (suc i))
  none_cycle i s w h = rw (search_cycle i s w) (none_more (same_context (context_of (r i)) x) i s (search_back r x s w.1.first) h)

  -- with that limit, all cycles before the row were looked at
  pub none_in_all : (i : ℕ) → HoldBefore r n i → Between r i
      → (search_back r x (row_before r i).stamp i).found ≡ None → (search_back r x (row_before r i).stamp i).count ≡ (row_before r i).stamp
  unfolding search_back
  none_in_all = over_cycles (λ s i. NoneInAll s (search_back r x s i)) (λ i h e f. refl) none_cycle
