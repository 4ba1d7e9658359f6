-- The numbers that the code makes the rows of an in-bounds cycle from, as the model has them.
use Rattle.std.specs.Prelude.{ℕ, ◌+◌, ◌-◌, ◌≡◌}
use Rattle.gas.specs.Plain.{parts}
use Rattle.model.specs.Constraints.{aux_lift}
use Rattle.model.specs.Cycles.{Claim}
use Rattle.model.specs.State.{State}
use Rattle.model.specs.Tests.{pick}
use Rattle.model.specs.Trace.{top, apart, above, last_word, last_byte, square, reach, is_at_least, is_grown}
use Rattle.state.specs.Plain.{state}
use Rattle.growth.specs.declared.Ends.{Ends}
use Rattle.growth.specs.declared.Growth.{Growth}

-- the ends of a claim and how they compare
pub record EndsOf (c : Claim) (e : Ends) : Type 0 where
  pub end1 : e.end1.0 ≡ c.end1
  pub end2 : e.end2.0 ≡ c.end2
  pub comp : e.comp ≡ is_at_least c
  pub top : e.top.0 ≡ top c
  pub apart : e.apart.0 ≡ apart (is_at_least c) c.end1 c.end2

-- what the end t makes of the state s
pub record GrowthOf (s : State) (t : ℕ) (g : Growth) : Type 0 where
  pub flag : g.flag ≡ is_grown s t
  pub above : g.above.0 ≡ above (is_grown s t) t s.mem
  pub after : state g.after ≡ reach (is_grown s t) t s
  pub gas : g.gas.0 ≡ (reach (is_grown s t) t s).cost - s.cost
  pub word : g.word.0 ≡ last_word (is_grown s t) t
  pub byte : g.byte ≡ last_byte (is_grown s t) t
  pub lifted : g.lifted ≡ pick (is_grown s t) (last_byte (is_grown s t) t + aux_lift) 0
  pub square : parts g.square ≡ square (is_grown s t) t
