-- `out::put_last` lays out the numbers of the last state, case by case.
use mathlib.Core.Path.{sym, ap}
use borrow.Author.Rules.{rules}
use Rattle.std.specs.Prelude.{Result}
use Rattle.refusal.specs.declared.Refusal.{Refusal}
use Rattle.state.specs.declared.look.Looked.{Looked}
use Rattle.last.specs.Last.{last_numbers}
use Rattle.out.specs.Out.{last_list}
use Rattle.out.proofs.put_last.Goals as goal

pub returns-in-Ok : goal.returns-in-Ok
returns-in-Ok c = ap (λ (a : Result Looked Refusal). last_list (last_numbers a)) (sym c.in-Ok.is)

pub returns-in-Err : goal.returns-in-Err
returns-in-Err c = rw (c.number.ensures, c.line.ensures) (ap (λ (a : Result Looked Refusal). last_list (last_numbers a)) (sym c.in-Err.is))
