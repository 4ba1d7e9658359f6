-- `words::amounts::is_beyond` meets its contract: each word in it is put for what it says, and `beyond_sums` has the difference in that form.
use Rattle.number.specs.Whole.{val}
use Rattle.words.proofs.WordLaws.{beyond_sums, through, val_pick}
use Rattle.words.proofs.amounts.is_beyond.Goals as goal

pub returns : goal.returns
returns c =
    let a = c.args in
    through (beyond_sums (val a.end1) (val a.end2) (val a.acc1))
    (rw (c.is_sum.ensures, c.pick-end.ensures, c.in_bounds.ensures, val_pick))
