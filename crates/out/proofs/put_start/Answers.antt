-- `out::put_start` lays out the numbers of the start, case by case.
use mathlib.Core.Path.{sym, ap}
use borrow.Author.Rules.{rules}
use Rattle.std.specs.Prelude.{Result, ℕ}
use Rattle.refusal.specs.declared.Refusal.{Refusal}
use Rattle.walker.specs.Walk.{start_numbers}
use Rattle.out.specs.Out.{open_list}
use Rattle.out.proofs.put_start.Goals as goal

pub returns-in-Ok : goal.returns-in-Ok
returns-in-Ok c = ap (λ (s : Result ℕ Refusal). open_list (start_numbers s)) (sym c.in-Ok.is)

pub returns-in-Err : goal.returns-in-Err
returns-in-Err c = rw (c.number.ensures, c.line.ensures) (ap (λ (s : Result ℕ Refusal). open_list (start_numbers s)) (sym c.in-Err.is))
