-- `text::Page::put_bytes` meets its contract: what is put into the buffer of a page where it ends is what the page shows behind the rest (`put_shows`).
use Prim.Native.Nat.{ℕ}
use mathlib.Core.List.{List, ◌++◌}
use mathlib.Core.Path.{◌∙◌, ap}
use native.Mathlib.Omega.{arith}
use lib.ListN.{length}
use lib.Seq.{length-sets}
use Rattle.std.proofs.Common.{length-take-le}
use Rattle.text.proofs.PutLaws.{put_shows}
use Rattle.text.proofs.Page.put_bytes.Goals as goal

pub returns : goal.returns
returns g c =
    let put = c.put_bytes-end.ensures in
    let shown = length-take-le c.self.inside.end c.self.inside.bytes (omega arith) in
    let kept = ap length put.stored in
    let same = length-sets c.self.inside.bytes c.self.inside.end c.args.s.now in
    put_shows put (omega arith) (omega (arith, c.put_bytes-end.ensures.after, shown, ap length c.self.view_is, c.requires, kept, same))
    ∙ ap (λ (l : List ℕ). l ++ c.args.s.now) c.self.view_is
