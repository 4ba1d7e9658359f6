-- `ground::tallied` meets its contract: the wrong ones among the vectors are those of the file (`wrong_ones`).
use mathlib.Core.Path.{◌∙◌, ap, sym}
use Rattle.ground.proofs.VectorLaws.{wrong_ones}
use Rattle.ground.specs.Agree.{wrongs, wrong_among}
use Rattle.ground.proofs.tallied.Goals as goal

pub returns : goal.returns
returns c =
    let vectors = c.vectors_in-vectors.ensures in
    record { whole = vectors.count; count = c.wrong_of.ensures ∙ ap (wrong_among c.args.kind) vectors.value ∙ wrong_ones c.args.kind c.args.t.now _ ∙ ap (wrongs c.args.kind c.args.t.now) (sym vectors.count) }
