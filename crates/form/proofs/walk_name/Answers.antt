-- `form::walk_name` meets its contract. The invariant: what is left of the name, read from here, gives what all of it gives from the start.
use mathlib.Core.Path.{sym, ◌∙◌}
use native.Mathlib.Omega.{arith}
use Rattle.std.proofs.lemmas.List.{drop_all}
use Rattle.form.specs.Read.{read_text}
use Rattle.form.proofs.StepLaws.{name_agrees, name_differs}
use Rattle.form.proofs.walk_name.Goals as goal

pub returns-then-not-has_char : goal.returns-then-not-has_char
returns-then-not-has_char c =
    let l = c.loop-c in
    let a = c.args in
    sym (name_differs a.name.now a.t.now l.c-index l.at (omega arith) (sym c.if-not-has_char.ensures)) ∙ l.invariant

pub loop-c-preserved : goal.loop-c-preserved
loop-c-preserved c =
    let l = c.loop-c in
    let a = c.args in
    sym (name_agrees a.name.now a.t.now l.c-index l.at (omega arith) (sym c.if-not-has_char.ensures)) ∙ l.invariant

pub returns : goal.returns
unfolding read_text
returns c =
    let l = c.loop-c in
    rw (drop_all l.c-index c.args.name.now (omega arith)) at l.invariant
