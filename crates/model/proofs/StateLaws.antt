-- The state of a context that claims leave behind: below the bound, and paid for.
use Prim.Native.Nat.{ℕ, ◌<◌, ◌≤◌}
use mathlib.Core.Bool.{Bool, true, false, ◌&&◌}
use mathlib.Core.Path.{◌≡◌, refl}
use native.Mathlib.Omega.{arith}
use borrow.Author.Tests.{ltb-true}
use lib.Dec.{ltb}
use Rattle.number.specs.Whole.{bound}
use Rattle.number.proofs.TestLaws.{both}
use Rattle.gas.specs.Gas.{words, cost}
use Rattle.gas.proofs.GasLaws.{cost_monotone}
use Rattle.model.specs.Cycles.{Claim}
use Rattle.model.specs.State.{Context, State, Sound, start, fresh, put, same_context}
use Rattle.model.specs.Trace.{in_bounds, top, reach, after, after_claim}
use Rattle.model.proofs.TestFacts.{pick_has}

-- the state of every context is sound
abbrev pub AllSound : (Context → State) → Type 0
AllSound states = (x : Context) → Sound (states x)

-- an in-bounds claim reaches less than the bound
pub top_lt : (c : Claim) → in_bounds c ≡ true → top c < bound
unfolding in_bounds
top_lt c h =
    let (p, q) = both (ltb c.end1 bound) (ltb c.end2 bound) h in
    omega (arith, ltb-true c.end1 bound p, ltb-true c.end2 bound q)

-- more bytes cost no less
pub paid_more : {a b : ℕ} → a ≤ b → cost (words a) ≤ cost (words b)
unfolding words
paid_more h = cost_monotone (omega arith)

-- a context starts with a sound state
pub sound_start : Sound start
unfolding cost words
sound_start = record { mem = omega arith; cost = refl }

sound_reach : (g : Bool) (s : State) (t : ℕ) → Sound s → (g ≡ true → t < bound) → Sound (reach g t s)
unfolding reach
sound_reach true s t k h = record { mem = h refl; cost = refl }
sound_reach false s t k h = k

-- a claim leaves a sound state
pub sound_after : (s : State) (c : Claim) → Sound s → Sound (after s c)
unfolding after
sound_after s c k =
    sound_reach (in_bounds c && ltb s.mem (top c)) s (top c) k (λ e. top_lt c (both (in_bounds c) (ltb s.mem (top c)) e).0)

-- all contexts start with one
pub all_sound_fresh : AllSound fresh
all_sound_fresh x = sound_start

-- and a claim leaves all of them with one
pub all_sound_after : (states : Context → State) (c : Claim) → AllSound states → AllSound (after_claim states c)
unfolding put
all_sound_after states c k y =
    pick_has Sound (same_context c.context y) (λ e. sound_after (states c.context) c (k c.context)) (λ e. k y)
