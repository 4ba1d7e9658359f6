-- `cycle::within::Made::of` meets its contract: the greater end of an in-bounds claim is below the bound (`top_lt`).
use Rattle.std.proofs.Common.{arith}
use Rattle.model.proofs.StateLaws.{top_lt}
use Rattle.claim.specs.Told.{plain_claim}
use Rattle.cycle.proofs.within.Made.of.Goals as goal

pub growth_of-growth-requires-clause-top_lt_bound : goal.growth_of-growth-requires-clause-top_lt_bound
growth_of-growth-requires-clause-top_lt_bound c =
    omega (arith, c.ends_of-ends.ensures.top, top_lt (plain_claim c.args.cycle.claim) c.requires)
