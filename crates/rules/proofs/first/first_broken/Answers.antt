-- `rules::first::first_broken` meets its contract: the number is one more than the place, and where there is none there is no number (`named_position`).
use Rattle.std.proofs.Common.{◌∙◌, Some, None}
use Rattle.rules.proofs.FirstLaws.{named_position}
use Rattle.rules.proofs.first.first_broken.Goals as goal

pub returns-in_err-place : goal.returns-in_err-place
returns-in_err-place c = c.from_residual.ensures ∙ named_position None _ _ c.in_err-place.ensures.place c.constraints_met.ensures

pub returns : goal.returns
returns c = named_position (Some c.in_ok-place.place) _ _ c.in_ok-place.ensures.place c.constraints_met.ensures
