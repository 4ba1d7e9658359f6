-- `cycle::within::Made::body` meets its contract: cell by cell, by what the numbers of the cycle are. The state before and the state after are
-- sound, so that what they have paid fits 4 bytes (`paid_lt`, `left_fits`).
use native.Mathlib.Omega.{arith}
use Rattle.std.proofs.Common.{refl, ap, ◌∙◌}
use Rattle.model.specs.State as model
use Rattle.model.specs.Tests.{bit}
use Rattle.model.specs.Trace.{in_row}
use Rattle.model.proofs.FitLaws.{paid_lt}
use Rattle.cycle.proofs.MadeLaws.{from_bool_bit, left_fits}
use Rattle.cycle.proofs.within.Made.body.Goals as goal

pub overflow_cast-result : goal.overflow_cast-result
overflow_cast-result c =
    omega (arith, paid_lt c.args.self.cycle.sound)

pub overflow_cast-result-2 : goal.overflow_cast-result-2
overflow_cast-result-2 c =
    omega (arith, left_fits c.args.self)

pub overflow_cast-result-3 : goal.overflow_cast-result-3
overflow_cast-result-3 c =
    omega (arith, left_fits c.args.self)

pub returns : goal.returns
unfolding in_row
returns c =
    let m = c.args.self in
    record {
      mem = refl;
      memn = ap (λ (s : model.State). s.mem) m.growth_is.after;
      cost = refl;
      costn = ap (λ (s : model.State). s.cost) m.growth_is.after;
      gas = m.growth_is.gas;
      comp = c.from.ensures ∙ from_bool_bit _ ∙ ap bit m.ends_are.comp;
      dbyte = rw m.ends_are.apart at c.digit.ensures;
      dacc = rw m.ends_are.apart at c.prefix.ensures;
      endmax = m.ends_are.top;
      flag = c.from-2.ensures ∙ from_bool_bit _ ∙ ap bit m.growth_is.flag;
    }
