-- `mxp::mxp_fill` lays out the answer that the filler gives; the buffer is the filler's.
use mathlib.Core.Path.{◌∙◌, ap}
use borrow.Author.Rules.{rules}
use Rattle.std.specs.Prelude.{Result, ℕ}
use Rattle.refusal.specs.declared.Refusal.{Refusal}
use Rattle.filler.specs.Answer.{numbers}
use Rattle.out.specs.Out.{fill_list}
use Rattle.mxp.proofs.mxp_fill.Goals as goal

pub returns : goal.returns
returns c =
    let call = c.fill-filled.ensures in
    record { out_after = c.put_filled.ensures ∙ ap (λ (f : Result ℕ Refusal). fill_list (numbers f)) call.value; buffer_after = call.buf_after }
