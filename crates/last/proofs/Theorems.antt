-- What is promised of the last-state question, over its answer `last_of` for any bytes: the contract of `last_state` says that its answer is this.
use Prim.Native.Nat.{ℕ, ◌/◌, ◌≤◌, ◌<◌}
use mathlib.Core.Bool.{Bool, true, false}
use mathlib.Core.List.{List, [], reverse}
use mathlib.Core.Logic.{◌≢◌, ◌⊎◌, ⊎_elim}
use mathlib.Core.Path.{◌≡◌, refl, ◌∙◌, ap}
use native.Mathlib.Omega.{arith}
use borrow.Author.Tests.{ltb-false}
use lib.Dec.{eqb, ltb}
use lib.ListN.{length, length-reverse}
use Rattle.number.proofs.TestLaws.{clash}
use Rattle.gas.specs.Gas.{words, cost}
use Rattle.model.specs.Alone.{reached}
use Rattle.model.specs.Columns.{Cells, row_bytes, row_at, rows_of}
use Rattle.model.specs.Cycles.{Looked, cycles, counts, last_state}
use Rattle.model.specs.Promises.{Accepted, claims_in, Found, Absent}
use Rattle.model.specs.State.{Context, State, start}
use Rattle.model.specs.Tests.{pick}
use Rattle.model.specs.Verdict as model
use Rattle.model.specs.Verdict.{Verdict, before, verdict}
use Rattle.model.proofs.InstructionLaws.{instructions_counted, last_state_is}
use Rattle.model.proofs.LastState.{last_place_lem}
use Rattle.model.proofs.LatestCycle.{latest_cycle}
use Rattle.model.proofs.VerdictLaws.{before_local, verdict_accepted}
use Rattle.refusal.specs.Refusals.{context_zero, limit_too_low}
use Rattle.trace.specs.Asked.{given, refused, of_accepted}
use Rattle.last.specs.Last.{within_limit, last_of}
use Rattle.trace.proofs.Theorems.{InOrder, asked_in_order}
use Rattle.last.proofs.LastLaws.{limit_enough, limit_low, last_of_zero, last_of_some}

-- ---- the order of the refusals

module _ (l : List ℕ) (x : Context) (limit : ℕ) where
  -- 9, then 10, then 11, whatever the context and the limit
  pub last_in_order : InOrder l (pick (eqb x.cn 0) (refused context_zero) (within_limit limit (last_state (rows_of l) x))) (last_of l x limit)
  unfolding last_of
  last_in_order = asked_in_order l (pick (eqb x.cn 0) (refused context_zero) (within_limit limit (last_state (rows_of l) x)))

  module _ (a : Accepted l) where
    -- then 13: context 0, whatever the limit
    pub last_then_zero : x.cn ≡ 0 → last_of l x limit ≡ refused context_zero
    last_then_zero = last_of_zero l a x limit

    module _ (some : x.cn ≢ 0) where
      -- then 14: more cycles needed than the limit
      pub last_then_low : limit < (last_state (rows_of l) x).cycles → last_of l x limit ≡ refused limit_too_low
      last_then_low h = last_of_some l a x limit some ∙ limit_low limit (last_state (rows_of l) x) h

      -- else the last state
      pub last_then_given : (last_state (rows_of l) x).cycles ≤ limit → last_of l x limit ≡ given (last_state (rows_of l) x)
      last_then_given h = last_of_some l a x limit some ∙ limit_enough limit (last_state (rows_of l) x) h

-- ---- the state

-- a state as it stands after the last instruction: in whatever rows go on from these, it is the state that constraint 9 asks of a next instruction of
-- the context; its bytes are those that the context's in-bounds claims have reached, and its cost is that of their words
pub record StandsLast (l : List ℕ) (x : Context) (s : State) : Type 0 where
  pub asked : (r : ℕ → Cells) → ((j : ℕ) → j < length l / row_bytes → r j ≡ row_at l j) → before r (length l / row_bytes) x ≡ s
  pub mem : s.mem ≡ reached x (claims_in l)
  pub cost : s.cost ≡ cost (words (reached x (claims_in l)))

module _ (l : List ℕ) (a : Accepted l) (x : Context) where
  stands_last : StandsLast l x (last_state (rows_of l) x).state
  unfolding rows_of
  stands_last =
      let n : ℕ = length l / row_bytes in
      let holds = ((verdict_accepted l (counts (rows_of l))).0 a.verdict).holds in
      record {
        asked = λ r same. ap (λ (states : Context → State). states x) (before_local r (row_at l) n same) ∙ latest_cycle (row_at l) n n holds x;
        mem = ap (λ (s : State). s.mem) (last_state_is l a x);
        cost = ap (λ (s : State). s.cost) (last_state_is l a x);
      }

  -- with a limit that lets the search find it, the answer is the last state, and it stands so
  pub last_state_asked : (limit : ℕ) → x.cn ≢ 0 → (last_state (rows_of l) x).cycles ≤ limit
      → (last_of l x limit ≡ given (last_state (rows_of l) x)) × StandsLast l x (last_state (rows_of l) x).state
  last_state_asked limit some h = (last_then_given l x limit a some h, stands_last)

-- ---- the cycles looked at

module _ (l : List ℕ) (x : Context) where
  all_cycles : length (reverse (cycles (rows_of l))) ≡ length (claims_in l)
  unfolding counts
  all_cycles = length-reverse (cycles (rows_of l)) ∙ instructions_counted (rows_of l)

  looked-le : (last_state (rows_of l) x).cycles ≤ length (claims_in l)
  looked-le =
      ⊎_elim (λ f. omega (arith, f.inside, f.looked, all_cycles)) (λ f. omega (arith, f.looked, all_cycles))
      (last_place_lem (rows_of l) x)

  -- a limit of as many cycles as there are is never too low
  pub limit_suffices : Accepted l → x.cn ≢ 0 → (limit : ℕ) → length (claims_in l) ≤ limit → last_of l x limit ≡ given (last_state (rows_of l) x)
  limit_suffices a some limit h = last_then_given l x limit a some (omega (arith, looked-le))

  none-looked : claims_in l ≡ [] → last_state (rows_of l) x ≡ record { state = start; cycles = 0 }
  none-looked none =
      let no : length (claims_in l) ≡ 0 = ap length none in
      ⊎_elim (λ f. absurd (omega (arith, f.inside, all_cycles)))
      (λ f i. record { state = f.state i; cycles = (f.looked ∙ all_cycles ∙ no) i }) (last_place_lem (rows_of l) x)

  -- so without an instruction every limit is enough, 0 too: the state is 0, 0 and no cycle is looked at
  pub limit_zero : Accepted l → x.cn ≢ 0 → claims_in l ≡ [] → (limit : ℕ) → last_of l x limit ≡ given (record { state = start; cycles = 0 })
  limit_zero a some none limit = limit_suffices a some limit (rw none (omega arith)) ∙ ap given (none-looked none)

  given-only : (limit : ℕ) {g : Looked} → last_of l x limit ≡ given g → (last_state (rows_of l) x ≡ g) × (g.cycles ≤ limit)
  unfolding last_of within_limit
  given-only limit {g} = by (verdict l) (eqb x.cn 0) (ltb limit (last_state (rows_of l) x).cycles) (ltb-false limit _)
    where
      by : (v : Verdict) (z t : Bool) → (t ≡ false → (last_state (rows_of l) x).cycles ≤ limit)
          → of_accepted v (pick z (refused context_zero) (pick t (refused limit_too_low) (given (last_state (rows_of l) x)))) ≡ given g
          → (last_state (rows_of l) x ≡ g) × (g.cycles ≤ limit)
      by (model.accepted c) true t h e = clash cc
      by (model.accepted c) false true h e = clash cc
      by (model.accepted c) false false h e =
          let same : last_state (rows_of l) x ≡ g = cc in
          (same, rw (← same) (h refl))
      by (model.broken i k) z t h e = clash cc
      by (model.refused m) z t h e = clash cc

  -- wherever there is an answer, its count is the place, from the end, of the latest cycle with the context, and its state is that cycle's; or none
  -- has the context, all cycles were looked at, and the state is 0, 0. It is never more than the limit.
  pub looked_is_the_place : (limit : ℕ) {g : Looked} → last_of l x limit ≡ given g
      → (Found x (reverse (cycles (rows_of l))) g ⊎ Absent x (reverse (cycles (rows_of l))) g) × (g.cycles ≤ limit)
  looked_is_the_place limit e =
      let (same, within) = given-only limit e in
      (rw same at (last_place_lem (rows_of l) x), within)
