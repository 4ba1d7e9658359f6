-- `text::Page::put_decimal` meets its contract: what is put into the buffer of a page where it ends is what the page shows behind the rest (`put_shows`).
use Prim.Native.Nat.{ℕ}
use mathlib.Core.List.{List, ◌++◌}
use mathlib.Core.Path.{◌∙◌, ap}
use native.Mathlib.Omega.{arith}
use lib.ListN.{length}
use lib.Seq.{length-sets}
use Rattle.std.proofs.Common.{length-take-le}
use Rattle.text.specs.Decimal.{decimal}
use Rattle.text.proofs.PutLaws.{put_shows}
use Rattle.text.proofs.Page.put_decimal.Goals as goal

pub returns-clause-put : goal.returns-clause-put
returns-clause-put g c =
    let put = c.put_decimal-end.ensures.put in
    let shown = length-take-le c.self.inside.end c.self.inside.bytes (omega arith) in
    let kept = ap length put.stored in
    let same = length-sets c.self.inside.bytes c.self.inside.end (decimal c.args.n) in
    put_shows put (omega arith) (omega (arith, c.put_decimal-end.ensures.upper_bound, shown, ap length c.self.view_is, c.requires, kept, same))
    ∙ ap (λ (l : List ℕ). l ++ decimal c.args.n) c.self.view_is
