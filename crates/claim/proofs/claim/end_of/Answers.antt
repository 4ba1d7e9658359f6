-- `claim::claim::end_of` meets its contract: the end is 0 where the length is.
use mathlib.Core.Path.{sym, ◌∙◌, ap}
use native.Mathlib.Omega.{arith}
use borrow.Author.Tests.{eqb-true}
use Rattle.number.specs.Whole.{wide}
use Rattle.long.specs.Halves.{whole}
use Rattle.number.proofs.WholeLaws.{wide_is}
use Rattle.claim.proofs.ClaimLaws.{end_none}
use Rattle.claim.proofs.claim.end_of.Goals as goal

pub returns-then-is_zero : goal.returns-then-is_zero
returns-then-is_zero c =
    let r = c.args.r in
    let none = eqb-true (whole r.len) 0 (sym c.is_zero.ensures ∙ c.if-is_zero.true) in
    wide_is c.from.result 0 c.from.ensures (omega arith) (omega arith) ∙ ap wide (sym (end_none (whole r.at) (whole r.len) none))
