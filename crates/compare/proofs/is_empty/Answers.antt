-- `compare::is_empty` meets its contract: the answer so far is that of the bytes so far (`zero_behind`), and the bytes of a row are 0 where its cells
-- are (`row_zero`).
use Prim.Native.Nat.{ℕ}
use mathlib.Core.Bool.{Bool}
use mathlib.Core.List.{List}
use mathlib.Core.Path.{◌≡◌, ◌∙◌, ap, subst}
use borrow.Author.Rules.{rules}
use lib.Dec.{eqb}
use lib.ListN.{length}
use Rattle.std.proofs.lemmas.Fn.{fold_over, slice_gives, fronts}
use Rattle.number.specs.Num.{num}
use Rattle.model.specs.Columns.{Cells, columns, cells_in, row_bytes}
use Rattle.model.specs.Tests.{zeros}
use Rattle.compare.proofs.ZeroLaws.{zero-none, zero_behind, row_zero}
use Rattle.compare.proofs.is_empty.Goals as goal

-- the answer so far
abbrev Zero : List ℕ → Bool → Type 0
Zero bytes so_far = so_far ≡ eqb (num bytes 0 (length bytes)) 0

pub returns : goal.returns
returns c =
    let all : c.iter.result.rest.now ≡ c.bytes.result.now = c.iter.ensures.rest in
    let bytes =
    subst (λ (l : List ℕ). Zero l c.fold.result) all
    (fold_over fronts (λ y. y.now) _ Zero _ (λ ys a x b f' j k. let more = zero_behind ys x.now a j in search rules)
    _ _ _ _ (slice_gives c.iter.result) (zero-none _ 0) c.fold.ensures.ran) in
    let long : length c.bytes.result.now ≡ row_bytes = search rules in
    rw long at bytes ∙ row_zero c.bytes.result.now 0
    ∙ ap (λ (x : Cells). zeros (cells_in columns x)) c.bytes.ensures
