-- No second answer, and no second walker, meets the contracts of `walker`.
use Prim.Native.Nat.{ℕ}
use mathlib.Core.List.{List}
use mathlib.Core.Path.{◌≡◌, refl}
use seplogic.Ra.Ura.{Ura}
use base.Logic.{SProp}
use prog.Memory.{Memory}
use prog.Routine.{Routine}
use types.Logic.{Logic}
use contract.Lifetimes.{Lfts}
use contract.Monad.{Fun, fact}
use denote.Bor.{Bor}
use denote.Ref.{MutBor, at_last}
use denote.Triple.Clauses.{AtExit}
use denote.Triple.Entry.{Args}
use Rattle.std.specs.Prelude.{Result}
use Rattle.refusal.specs.declared.Refusal.{Refusal}
use Rattle.walker.specs.Walk.{begun, opened, Steps}
use Rattle.walker.specs.declared.Walker.{Walker}
use Rattle.walker.specs.contracts.open_walker as open-walker
use Rattle.walker.specs.contracts.step as step
use Rattle.promises.proofs.NoSecond.{NoSecond, no_second, equation, Sight, given, ref, shared, answer, by, both}
use Rattle.walker.proofs.start_of.Reads as start_of_lem
use Rattle.walker.proofs.first_part.Reads as first_part

-- where a walker starts, and what its first step gives
pub one_start_of : NoSecond start_of_lem.Post (shared given) answer
one_start_of = equation (λ a b. refl)

pub one_first_part : NoSecond first_part.Post (shared given) (by (λ x. x.now))
one_first_part = equation (λ a b. refl)

-- ---- the calls over a walker itself, whose contracts are read here from their clauses

-- what the two contracts say of an answer and of what was lent
abbrev pub OpenPost : (κs : Lfts 1) → Args open-walker.signature κs → Result Walker Refusal → AtExit open-walker.ended κs → Type 0
OpenPost κs a o e = opened o ≡ begun a.0.now

abbrev pub StepPost : (κs : Lfts 2) → Args step.signature κs → Bor (List ℕ) → AtExit step.ended κs → Type 0
StepPost κs a r e = Steps a.0.now e.0.now r.now

-- the clauses of the contracts are these facts
module _ {M : Type 1} {𝓤 : Ura M} (𝓛 : Logic 𝓤) (mem : Memory → SProp 𝓤) (run : Routine → Fun 𝓤) where
  pub open_says : (κs : Lfts 1) (a : Args open-walker.signature κs) (o : Result Walker Refusal) (e : AtExit open-walker.ended κs)
      → (open-walker.clauses 𝓛 mem run κs a).ensures tt o e ≡ fact 𝓤 (OpenPost κs a o e)
  open_says κs a o e = refl

  pub step_says : (κs : Lfts 2) (a : Args step.signature κs) (r : Bor (List ℕ)) (e : AtExit step.ended κs)
      → (step.clauses 𝓛 mem run κs a).ensures tt r e ≡ fact 𝓤 (StepPost κs a r e)
  step_says κs a r e = refl

-- a walker is its bytes and its next row: so it is told, and so it is seen
abbrev walked : Walker → List ℕ × ℕ
walked w = (w.trace.now, w.next)

abbrev walker : Sight (MutBor Walker × Unit) (List ℕ × ℕ)
walker = record {
  seen = λ a. walked a.0.now;
  put = λ a i. (at_last a.0 (record { trace = record a.0.now.trace { now = i.0 }; next = i.1 }), tt);
}

-- an opened walker, its bytes and its next row, or why there is none
pub one_open_walker : NoSecond OpenPost (shared given) (by opened)
one_open_walker = equation (λ a b. refl)

-- a step: the bytes that it gives, and the walker after it
pub one_step : NoSecond StepPost walker (both (by (λ x. x.now)) (λ v e. walked e.0.now))
one_step = no_second _ (λ κ a v e p. λ i. (p.gives i, ((p.keeps i).now, p.moves i))) (λ a b. refl)
