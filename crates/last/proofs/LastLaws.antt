-- The search for a context's last cycle in an accepted trace: over all cycles it answers the last-state question, and under a limit it stops short
-- exactly where it needs more.
use Prim.Native.Nat.{ℕ, ◌/◌, ◌≤◌, ◌<◌, min}
use mathlib.Core.Bool.{Bool, true, false}
use mathlib.Core.List.{List}
use mathlib.Core.Logic.{◌≢◌}
use mathlib.Core.Path.{◌≡◌, refl, sym, ◌∙◌, ap}
use native.Mathlib.Omega.{arith}
use borrow.Author.Tests.{ltb-true, ltb-false, lt-ltb, le-ltb, le-leb, lt-leb, eq-eqb, ne_eqb}
use lib.Dec.{ltb}
use lib.ListN.{length}
use Rattle.std.specs.Prelude.{Option, None, Some}
use Rattle.model.specs.Columns.{row_bytes, row_at, rows_of}
use Rattle.model.specs.Cycles.{counts, Looked, last_state}
use Rattle.model.specs.Promises.{Accepted, claims_in}
use Rattle.model.specs.State.{Context}
use Rattle.model.specs.Tests.{pick}
use Rattle.model.specs.Verdict.{row_before}
use Rattle.model.proofs.VerdictLaws.{verdict_accepted}
use Rattle.refusal.specs.Refusals.{context_zero, limit_too_low}
use Rattle.state.specs.Look.{none_in, search_back, answered, look_back}
use Rattle.state.specs.declared.look.Search.{Search}
use Rattle.state.proofs.LookLaws.{HoldBefore, Between, look_is_last, none_in_all}
use Rattle.state.proofs.SearchLaws.{limited_to, lower_limit, count-within}
use Rattle.trace.specs.Asked.{given, refused}
use Rattle.last.specs.Last.{within_limit, last_of}
use Rattle.last.specs.Search.{stopped_short}
use Rattle.last.proofs.EndLaws.{trace_closes}

-- ---- an answer within a limit

module _ (limit : ℕ) (a : Looked) where
  -- as many cycles as the limit are enough
  pub limit_enough : a.cycles ≤ limit → within_limit limit a ≡ given a
  unfolding within_limit
  limit_enough h = ap (λ (t : Bool). pick t (refused limit_too_low) (given a)) (le-ltb limit a.cycles h)

  -- more are refused
  pub limit_low : limit < a.cycles → within_limit limit a ≡ refused limit_too_low
  unfolding within_limit
  limit_low h = ap (λ (t : Bool). pick t (refused limit_too_low) (given a)) (lt-ltb limit a.cycles h)

-- ---- a search of all cycles, and the same under a limit

module _ (cycles : ℕ) (all : Search) (within : all.count ≤ cycles) (none : all.found ≡ None → all.count ≡ cycles) where
  all_whole : (f : Option ℕ) → all.found ≡ f → stopped_short f all.count cycles ≡ false
  all_whole (Some i) e = refl
  all_whole None e = le-ltb all.count cycles (omega (arith, none e))

  module _ (limit : ℕ) where
    enough : all.count ≤ limit → limited_to (min limit cycles) all ≡ all
    enough h = rw (le-leb all.count (min limit cycles) (omega arith))

    too_few : limit < all.count → limited_to (min limit cycles) all ≡ none_in limit
    too_few h =
        let least : min limit cycles ≡ limit = omega arith in
        rw (least, lt-leb all.count limit h)

    -- it stops short exactly if more cycles are needed than the limit
    short_is : (s : Search) → s ≡ limited_to (min limit cycles) all → stopped_short s.found s.count cycles ≡ ltb limit all.count
    short_is s e = go (ltb limit all.count) refl
      where
        go : (t : Bool) → ltb limit all.count ≡ t → stopped_short s.found s.count cycles ≡ t
        go true h = rw (e, too_few (ltb-true limit all.count h)) (lt-ltb limit cycles (omega (arith, ltb-true limit all.count h)))
        go false h = rw (e, enough (ltb-false limit all.count h)) (all_whole all.found refl)

-- ---- in an accepted trace

module _ (l : List ℕ) (a : Accepted l) (x : Context) (cycles : ℕ) (told : cycles ≡ length (claims_in l)) where
  -- how many rows it has
  abbrev rows : ℕ
  rows = length l / row_bytes

  -- the search over all of its cycles
  abbrev all : Search
  all = search_back (row_at l) x cycles rows

  holds : HoldBefore (row_at l) rows rows
  holds = ((verdict_accepted l (counts (rows_of l))).0 a.verdict).holds

  between : Between (row_at l) rows
  between = (trace_closes l a).between

  stamp : (row_before (row_at l) rows).stamp ≡ cycles
  stamp = (trace_closes l a).stamp ∙ sym told

  -- it answers the last-state question
  all_answers : last_state (rows_of l) x ≡ answered (row_at l) all
  unfolding rows_of look_back
  all_answers = sym (rw stamp at (look_is_last (row_at l) rows x rows holds between))

  all_within : all.count ≤ cycles
  all_within = count-within (row_at l) x cycles rows

  all_none : all.found ≡ None → all.count ≡ cycles
  all_none = rw stamp at (none_in_all (row_at l) rows x rows holds between)

  -- a search over the lower of a limit and all cycles
  module _ (limit most : ℕ) (least : most ≡ min limit cycles) (s : Search) (e : s ≡ search_back (row_at l) x most rows) where
    limited : s ≡ limited_to (min limit cycles) all
    limited = e ∙ rw least (lower_limit (row_at l) x (min limit cycles) cycles rows (omega arith))

    short_or_not : stopped_short s.found s.count cycles ≡ ltb limit all.count
    short_or_not = short_is cycles all all_within all_none limit s limited

    -- where it stopped short, the question is refused
    pub refused_short : stopped_short s.found s.count cycles ≡ true → within_limit limit (last_state (rows_of l) x) ≡ refused limit_too_low
    refused_short short =
        rw all_answers (limit_low limit (answered (row_at l) all) (ltb-true limit all.count (sym short_or_not ∙ short)))

    -- where it did not, it has the answer
    pub given-whole : stopped_short s.found s.count cycles ≡ false
        → within_limit limit (last_state (rows_of l) x) ≡ given (answered (row_at l) s)
    given-whole whole =
        let h : all.count ≤ limit = ltb-false limit all.count (sym short_or_not ∙ whole) in
        let same : s ≡ all = limited ∙ enough cycles all all_within all_none limit h in
        rw (all_answers, same) (limit_enough limit (answered (row_at l) all) h)

-- ---- the whole question

module _ (l : List ℕ) (a : Accepted l) (x : Context) (limit : ℕ) where
  -- context 0 is refused, whatever the limit
  pub last_of_zero : x.cn ≡ 0 → last_of l x limit ≡ refused context_zero
  unfolding last_of
  last_of_zero e = rw (a.verdict, eq-eqb x.cn 0 e)

  -- any other has its last state, within the limit
  pub last_of_some : x.cn ≢ 0 → last_of l x limit ≡ within_limit limit (last_state (rows_of l) x)
  unfolding last_of
  last_of_some some = rw (a.verdict, ne_eqb x.cn 0 some)
