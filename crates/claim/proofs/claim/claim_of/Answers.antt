-- `claim::claim::claim_of` meets its contract: of two ranges each has its own end.
use Rattle.claim.specs.Claims.{claim_of}
use Rattle.claim.proofs.claim.claim_of.Goals as goal

pub returns-in-Two : goal.returns-in-Two
unfolding claim_of
returns-in-Two c =
    let x = c.args.i in
    rw c.in-Two.is
    (λ i. record { context = x.context; end1 = c.end_of-in-Two.ensures i; end2 = c.end_of-in-Two-2.ensures i })
