-- `row::view::RowBytes::read` meets its contract: by `row_of_parts` the three parts are the model's row.
use mathlib.Core.Path.{◌∙◌}
use Rattle.row.proofs.PlaceLaws.{row_of_parts}
use Rattle.row.proofs.view.RowBytes.read.Goals as goal

pub returns : goal.returns
returns c = row_of_parts _ 0 _ _ _ c.head_of.ensures c.body_of.ensures c.tail_of.ensures ∙ c.bytes-bytes.ensures
