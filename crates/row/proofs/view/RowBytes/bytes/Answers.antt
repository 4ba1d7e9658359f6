-- `row::view::RowBytes::bytes` meets its contract: the array is the bytes.
use Prim.Native.Nat.{ℕ}
use mathlib.Core.List.{List}
use mathlib.Core.Path.{◌∙◌, ap}
use Rattle.model.specs.Columns.{row_at}
use Rattle.row.proofs.view.RowBytes.bytes.Goals as goal

pub returns : goal.returns
returns c =
    let whole = rw c.unwrap.ensures at c.try_from.ensures.1 in
    ap (λ (l : List ℕ). row_at l 0) whole.same ∙ c.self.view_is
