-- `rules::cells::all_kept` meets its contract: the tests in the order of the fields are those over the two lists.
use Rattle.std.proofs.Common.{◌≡◌, ◌∙◌}
use mathlib.Core.Path.{ap₂}
use mathlib.Core.Bool.{and-true}
use Rattle.model.specs.Constraints.{equal}
use Rattle.rules.specs.Kept.{numbers}
use Rattle.rules.proofs.cells.all_kept.Goals as goal

pub returns : goal.returns
unfolding equal
returns c =
    let same : c.eq.result ≡ equal (numbers c.from.result) (numbers c.from-2.result) = c.eq.ensures ∙ simp and-true in
    same ∙ ap₂ equal c.from.ensures c.from-2.ensures
