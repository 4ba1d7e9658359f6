-- `with_digit` of a `Long` meets its contract: with at most 31 digits there is room for one more.
use mathlib.Core.Path.{◌∙◌, ap}
use native.Mathlib.Omega.{arith}
use Rattle.long.specs.Halves.{whole}
use Rattle.long.proofs.LongLaws.{whole_long}
use Rattle.form.proofs.RunLaws.{digit_room}
use Rattle.form.proofs.LongSpelled.with_digit.Goals as goal

pub push-requires : goal.push-requires
push-requires c = (digit_room c.args.self 31 c.requires.has_room (omega arith), c.requires.is_digit)

pub returns : goal.returns
returns c = ap whole c.push.ensures ∙ whole_long _
