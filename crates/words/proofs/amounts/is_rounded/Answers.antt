-- `words::amounts::is_rounded` meets its contract: each word in it is put for what it says, from the last to the first.
use Rattle.words.proofs.amounts.is_rounded.Goals as goal

pub returns : goal.returns
returns c =
    rw (
      c.is_difference.ensures,
      c.from-4.ensures,
      c.from-3.ensures,
      c.from-2.ensures,
      c.from.ensures,
      c.from-rest.ensures,
    )
