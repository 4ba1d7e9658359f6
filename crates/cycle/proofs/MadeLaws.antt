-- What the rows of an in-bounds cycle are made from: whose it is, that its cost and gas fit machine words, and that the cells of three bytes fit them.
use Prim.Native.Nat.{ℕ, ◌-◌, ◌^◌, ◌<◌}
use mathlib.Core.Bool.{Bool, true, false}
use mathlib.Core.Path.{◌≡◌, refl, ap}
use native.Mathlib.Nat.{div-le_self, lt_of_le_of_lt}
use native.Mathlib.Omega.{arith}
use Rattle.std.specs.Int.{from_bool}
use Rattle.number.specs.Sums.{prefix_at}
use Rattle.model.specs.Constraints.{in_last}
use Rattle.model.specs.Cycles as cycles
use Rattle.model.specs.State as model
use Rattle.model.specs.Tests.{bit}
use Rattle.model.specs.Trace.{in_bounds, top, is_grown, reach, in_row}
use Rattle.model.proofs.FitLaws.{paid_lt, apart-lt, above-lt, last_word_lt, sound_reached}
use Rattle.model.proofs.StateLaws.{top_lt}
use Rattle.compare.specs.Narrow.{Narrow}
use Rattle.state.specs.Plain.{state}
use Rattle.claim.specs.Told.{plain_claim}
use Rattle.cycle.specs.Made.{MadeOf}
use Rattle.cycle.specs.Within.{within_row}
use Rattle.cycle.specs.declared.within.Made.{Made}

-- a test as a number, in the library's word and in the model's
pub from_bool_bit : (t : Bool) → from_bool t ≡ bit t
from_bool_bit true = refl
from_bool_bit false = refl

-- what the digits of a number up to row i spell is no more than it
prefix_lt : {v n : ℕ} (i : ℕ) → v < n → prefix_at in_last v i < n
unfolding prefix_at
prefix_lt {v} i h = lt_of_le_of_lt (div-le_self v (256 ^ (in_last - i))) h

-- the cells of three bytes fit them, whatever the two comparisons answer, if the state that it leaves is sound
in_narrow : (at_least grown : Bool) (stamp : ℕ) (s : model.State) (c : cycles.Claim) (i : ℕ) → in_bounds c ≡ true → model.Sound s
    → model.Sound (reach grown (top c) s) → Narrow (in_row at_least grown stamp s c i)
unfolding in_row
in_narrow at_least grown stamp s c i e k n =
    let t = top_lt c e in
    record {
      memn = n.mem;
      dacc = prefix_lt i (apart-lt at_least (omega arith) (omega arith));
      endmax = t;
      eacc = prefix_lt i (above-lt grown t k.mem);
      q1 = last_word_lt grown t;
      q1acc = prefix_lt i (last_word_lt grown t);
      q2acc = prefix_lt i (omega arith);
    }

module _ (m : Made) where
  abbrev c : cycles.Claim
  c = plain_claim m.cycle.claim

  -- what is made is made from its own stamp, state and claim
  pub made_self : MadeOf m.cycle.stamp m.cycle.before m.cycle.claim m
  made_self = record {
    stamp = refl;
    before = refl;
    claim = refl;
    ends = m.ends_are;
    growth = m.growth_is;
    sound = m.cycle.sound;
    within = m.within;
  }

  -- the state that the claim leaves is sound
  left_sound : model.Sound (reach (is_grown (state m.cycle.before) (top c)) (top c) (state m.cycle.before))
  left_sound = sound_reached (state m.cycle.before) c m.within m.cycle.sound

  -- its cost fits 4 bytes, and so does the gas
  pub left_fits : (m.growth.after.cost.0 < 256 ^ 4) × (m.growth.gas.0 < 256 ^ 4)
  left_fits =
      let paid = paid_lt left_sound in
      let cost = ap (λ (x : model.State). x.cost) m.growth_is.after in
      (omega (arith, paid, cost), omega (arith, paid, m.growth_is.gas))

  -- the cells of three bytes of row i fit them
  pub within_narrow : (i : ℕ) → Narrow (within_row m.cycle i)
  within_narrow i = in_narrow _ _ _ (state m.cycle.before) c i m.within m.cycle.sound left_sound
