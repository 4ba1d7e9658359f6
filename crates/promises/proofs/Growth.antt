-- No second answer meets the contracts of `growth`.
use mathlib.Core.Path.{refl}
use Rattle.promises.proofs.NoSecond.{NoSecond, no_second, given, answer}
use Rattle.growth.proofs.ends_of.Reads as ends_of
use Rattle.growth.proofs.growth_of.Reads as growth-of

-- how the ends of a claim compare, and what the greater makes of a state: field by field
pub one_ends_of : NoSecond ends_of.Post given answer
one_ends_of =
    no_second _
    (λ κ a v e p. λ i. record {
      end1 = record { 0 = p.end1 i };
      end2 = record { 0 = p.end2 i };
      comp = p.comp i;
      top = record { 0 = p.top i };
      apart = record { 0 = p.apart i };
    })
    (λ a b. refl)

pub one_growth_of : NoSecond growth-of.Post given answer
one_growth_of =
    no_second _
    (λ κ a v e p. λ i. record {
      flag = p.flag i;
      above = record { 0 = p.above i };
      after = record { mem = record { 0 = (p.after i).mem }; cost = record { 0 = (p.after i).cost } };
      gas = record { 0 = p.gas i };
      word = record { 0 = p.word i };
      byte = p.byte i;
      lifted = p.lifted i;
      square = record { q2 = (p.square i).q2; e = (p.square i).e; low = (p.square i).low };
    })
    (λ a b. refl)
