-- `words::amounts::is_gap` meets its contract: each word in it is put for what it says, and `gap_sums` has the gap in that form.
use Rattle.number.specs.Whole.{val}
use Rattle.words.proofs.WordLaws.{gap_sums, through}
use Rattle.words.proofs.amounts.is_gap.Goals as goal

pub returns : goal.returns
returns c =
    let a = c.args in
    through (gap_sums a.comp a.dacc (val a.end1) (val a.end2))
    (rw (c.pick.ensures, c.is_sum-second.ensures, c.is_sum-first.ensures, c.from-gap.ensures))
