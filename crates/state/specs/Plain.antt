-- The code's context, its state and the answer of a look-up as those that the model speaks of.
use Rattle.model.specs.Cycles as cycles
use Rattle.model.specs.State as model
use Rattle.state.specs.declared.Context.{Context}
use Rattle.state.specs.declared.State.{State}
use Rattle.state.specs.declared.look.Looked.{Looked}

-- a context
abbrev pub context : Context → model.Context
context x = record { cn = x.cn }

-- its state: bytes reached and gas paid
abbrev pub state : State → model.State
state s = record { mem = s.mem.0; cost = s.cost.0 }

-- a state, and how many cycles were looked at for it
abbrev pub looked : Looked → cycles.Looked
looked a = record { state = state a.state; cycles = a.cycles }

-- and back
abbrev pub told_looked : cycles.Looked → Looked
told_looked a = record { state = record { mem = record { 0 = a.state.mem }; cost = record { 0 = a.state.cost } }; cycles = a.cycles }
