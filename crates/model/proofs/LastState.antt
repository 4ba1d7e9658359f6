-- The last-state question: its answer is the first match from the end, and in the trace of claims it is the state that the claims leave.
use Prim.Native.Nat.{ℕ, zero, suc, ◌<◌, ◌≤◌}
use mathlib.Core.Bool.{Bool, true, false}
use mathlib.Core.List.{List, [], ◌∷◌, ◌++◌, reverse, reverse-append}
use mathlib.Core.Logic.{◌⊎◌, inl, inr, ⊎_elim}
use mathlib.Core.Path.{◌≡◌, refl, sym, ap}
use native.Mathlib.Nat.{le_of_suc-le-suc}
use native.Mathlib.Omega.{arith}
use lib.ListN.{length, get_or, take}
use lib.Seq.{take-suc, take-length}
use Rattle.model.specs.Columns.{Cells}
use Rattle.model.specs.Cycles.{Cycle, Claim, Looked, cycles, no_cycle, look, last_state}
use Rattle.model.specs.Promises.{Found, Absent}
use Rattle.model.specs.State.{Context, State, same_context, context_of, state_of, fresh, put}
use Rattle.model.specs.Tests.{pick}
use Rattle.model.specs.Trace.{after_claims, trace}
use Rattle.model.proofs.JoinLaws.{after_snoc}
use Rattle.model.proofs.ReadBack.{is_row, placed, cycles_of_trace, cycles_snoc, no_claim}
use Rattle.model.proofs.TestFacts.{pick_under}

-- ---- the place

found_here : (x : Context) (c : Cycle) (cs : List Cycle) → same_context (context_of c.row) x ≡ true → Found x (c ∷ cs) (look x (c ∷ cs))
unfolding look
found_here x c cs e = rw e (record { place = 0; inside = omega arith; own = e; later = λ j h. absurd (omega arith); state = refl; looked = refl })

module _ (x : Context) (c : Cycle) (cs : List Cycle) (e : same_context (context_of c.row) x ≡ false) where
  one_more : look x (c ∷ cs) ≡ record { state = (look x cs).state; cycles = suc (look x cs).cycles }
  unfolding look
  one_more = rw e

  none_of : (m : ℕ) → ((j : ℕ) → j < m → same_context (context_of (get_or cs j no_cycle).row) x ≡ false)
      → (j : ℕ) → j < suc m → same_context (context_of (get_or (c ∷ cs) j no_cycle).row) x ≡ false
  none_of m h zero l = e
  none_of m h (suc j) l = h j (le_of_suc-le-suc l)

  found_later : Found x cs (look x cs) → Found x (c ∷ cs) (look x (c ∷ cs))
  found_later f = rw one_more (record {
    place = suc f.place;
    inside = omega (arith, f.inside);
    own = f.own;
    later = none_of f.place f.later;
    state = f.state;
    looked = ap suc f.looked;
  })

  absent_still : Absent x cs (look x cs) → Absent x (c ∷ cs) (look x (c ∷ cs))
  absent_still f = rw one_more (record { none = none_of (length cs) f.none; state = f.state; looked = ap suc f.looked })

look-place : (x : Context) (cs : List Cycle) → Found x cs (look x cs) ⊎ Absent x cs (look x cs)
look-place x [] = inr (unfold look in record { none = λ j h. absurd (omega arith); state = refl; looked = refl })
look-place x (c ∷ cs) = go (same_context (context_of c.row) x) refl (look-place x cs)
  where
    go : (t : Bool) → same_context (context_of c.row) x ≡ t → Found x cs (look x cs) ⊎ Absent x cs (look x cs)
        → Found x (c ∷ cs) (look x (c ∷ cs)) ⊎ Absent x (c ∷ cs) (look x (c ∷ cs))
    go true e r = inl (found_here x c cs e)
    go false e r = ⊎_elim (λ f. inl (found_later x c cs e f)) (λ f. inr (absent_still x c cs e f)) r

-- the answer is the place, counted from the end, of the latest cycle with the context and its state; or all cycles and the state 0, 0
pub last_place_lem : (rows : List Cells) (x : Context)
    → Found x (reverse (cycles rows)) (last_state rows x) ⊎ Absent x (reverse (cycles rows)) (last_state rows x)
unfolding last_state
last_place_lem rows x = look-place x (reverse (cycles rows))

-- ---- in the trace of claims

-- the last of the cycles is looked at first
look_snoc : (x : Context) (cs : List Cycle) (c : Cycle)
    → (look x (reverse (cs ++ (c ∷ [])))).state ≡ pick (same_context (context_of c.row) x) (state_of c.row) (look x (reverse cs)).state
unfolding look
look_snoc x cs c = rw (reverse-append cs (c ∷ [])) (sym (pick_under (λ (a : Looked). a.state) (same_context (context_of c.row) x) _ _))

-- one claim more
last_next : (n : ℕ) (cs : List Claim) (c : Claim) (x : Context) → (last_state (trace n cs) x).state ≡ after_claims fresh cs x
    → (last_state (trace n (cs ++ (c ∷ []))) x).state ≡ after_claims fresh (cs ++ (c ∷ [])) x
unfolding last_state put
last_next n cs c x e =
    let s : State = after_claims fresh cs c.context in
    let r = is_row (suc (length cs)) s c 0 in
    rw (cycles_snoc n cs c, look_snoc, r.context, r.state, e, after_snoc)

last_upto : (n : ℕ) (cs : List Claim) (x : Context) (k : ℕ) → k ≤ length cs
    → (last_state (trace n (take k cs)) x).state ≡ after_claims fresh (take k cs) x
last_upto n cs x zero h = unfold last_state placed look after_claims in rw (cycles_of_trace n [])
last_upto n cs x (suc k) h =
    rw (take-suc cs k no_claim h) (last_next n (take k cs) (get_or cs k no_claim) x (last_upto n cs x k (omega arith)))

-- in the trace of claims, the state of a context's last cycle is the state that the claims leave
pub last_trace : (n : ℕ) (cs : List Claim) (x : Context) → (last_state (trace n cs) x).state ≡ after_claims fresh cs x
last_trace n cs x = rw (take-length cs) at (last_upto n cs x (length cs) (omega arith))
