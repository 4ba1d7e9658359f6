-- `cycle::rows_of` meets its contract: the last CT goes by whether the claim is in bounds (`last_of_lem`).
use Prim.Native.Nat.{suc}
use mathlib.Core.Bool.{true, false}
use mathlib.Core.Path.{sym, ap, ◌∙◌}
use Rattle.claim.specs.Told.{plain_claim}
use Rattle.cycle.proofs.CycleLaws.{last_of_lem}
use Rattle.cycle.proofs.rows_of.Goals as goal

pub returns-then-is_within : goal.returns-then-is_within
returns-then-is_within c =
    sym (ap suc (last_of_lem (plain_claim c.args.c) true (sym c.is_within.ensures ∙ c.if-is_within.true)))

pub returns-else-is_within : goal.returns-else-is_within
returns-else-is_within c =
    sym (ap suc (last_of_lem (plain_claim c.args.c) false (sym c.is_within.ensures ∙ c.if-is_within.false)))
