-- `words::is_sum` meets its contract: what the parts carry is known, so its test is that of `eqb_plus`, which joins the three parts.
use mathlib.Core.Path.{◌∙◌}
use Rattle.std.proofs.Common.{arith}
use Rattle.words.proofs.SumLaws.{carries, carried, eqb_plus}
use Rattle.words.proofs.is_sum.Goals as goal

pub returns : goal.returns
returns c =
    let lo = carries _ _ _ _ (omega arith) (omega arith) c.overflowing_add-lo.ensures.value c.overflowing_add-lo.ensures.overflow in
    let hi = carries _ _ _ _ (omega arith) (omega arith) c.overflowing_add-hi.ensures.value c.overflowing_add-hi.ensures.overflow in
    let same = carried c.args.a c.args.b c.args.n _ _ _ _ (omega arith) (omega arith) (omega arith) (omega arith) (omega arith) (omega arith) (omega arith)
    lo (rw c.from.ensures at hi) in
    rw (c.from-3.ensures, c.from-2.ensures, c.from-4.ensures)
    (same ∙ eqb_plus c.args.a c.args.n c.args.b (omega arith) (omega arith) (omega arith) (omega arith) (omega arith))
