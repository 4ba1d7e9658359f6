-- A context, its state, and the state of every context.
use Rattle.std.specs.Prelude.{ℕ, ◌<◌, Bool, ◌≡◌, eqb}
use Rattle.number.specs.Whole.{bound}
use Rattle.gas.specs.Gas.{words, cost}
use Rattle.model.specs.Columns.{Cells}
use Rattle.model.specs.Tests.{pick}

-- a context, by its number
pub record Context : Type 0 where
  pub cn : ℕ

-- the same context
unfoldable pub same_context : Context → Context → Bool
same_context x y = eqb x.cn y.cn

-- the context of a row
abbrev pub context_of : Cells → Context
context_of x = record { cn = x.cn }

-- the bytes reached and the cost paid for them
pub record State : Type 0 where
  pub mem : ℕ
  pub cost : ℕ

-- a state that claims leave behind: the bytes reached are below the bound, and the cost is that of their words
pub record Sound (s : State) : Type 0 where
  pub mem : s.mem < bound
  pub cost : s.cost ≡ cost (words s.mem)

-- that of a context without an earlier instruction
abbrev pub start : State
start = record { mem = 0; cost = 0 }

-- the states before any instruction
abbrev pub fresh : Context → State
fresh x = start

-- the state that a row leaves
abbrev pub state_of : Cells → State
state_of x = record { mem = x.memn; cost = x.costn }

-- the states where that of one context has become s
unfoldable pub put : (Context → State) → Context → State → Context → State
put states x s y = pick (same_context x y) s (states y)
