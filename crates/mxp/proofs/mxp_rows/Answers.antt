-- `mxp::mxp_rows` lays out the place where the instruction stands; its part ends inside the trace (`part_inside`), so its numbers fit.
use mathlib.Core.Path.{◌∙◌, ap}
use native.Mathlib.Omega.{arith}
use borrow.Author.Rules.{rules}
use Rattle.std.specs.Prelude.{Result}
use Rattle.refusal.specs.declared.Refusal.{Refusal}
use Rattle.trace.specs.declared.place.Place.{Place}
use Rattle.trace.specs.Told.{part_numbers}
use Rattle.out.specs.Out.{rows_list}
use Rattle.mxp.proofs.PartLaws.{part_inside}
use Rattle.mxp.proofs.mxp_rows.Goals as goal

pub put_place-requires : goal.put_place-requires
put_place-requires c =
    let l = c.args.trace.now in
    omega (arith, part_inside l (λ i h. omega (arith, c.shared_slice_known-1.given i)) _ _ c.place_of-place.ensures)

pub returns : goal.returns
returns c = c.put_place.ensures ∙ ap (λ (p : Result Place Refusal). rows_list (part_numbers p)) c.place_of-place.ensures
