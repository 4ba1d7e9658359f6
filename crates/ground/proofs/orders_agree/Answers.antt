-- `ground::orders_agree` meets its contract: the numbers read, and the tests of them, are those that the definitions name.
use mathlib.Core.Path.{◌≡◌}
use borrow.Author.Rules.{rules}
use lib.Dec.{ltb}
use Rattle.ground.proofs.AgreeLaws.{bit_of}
use Rattle.ground.specs.Agree.{orders_agree}
use Rattle.number.specs.Whole.{val}
use Rattle.ground.proofs.orders_agree.Goals as goal

pub returns : goal.returns
unfolding orders_agree
returns c =
    let below : c.lt.result ≡ ltb (val c.wide_at-a.result) (val c.wide_at-b.result) = search rules in
    rw (
      c.from.ensures,
      c.from-2.ensures,
      c.from-3.ensures,
      bit_of,
      bit_of,
      bit_of,
      c.eq.ensures,
      below,
      c.in_bounds.ensures,
      c.wide_at-a.ensures,
      c.wide_at-b.ensures,
      c.u8_at.ensures,
      c.u8_at-2.ensures,
      c.u8_at-3.ensures,
    )
