-- `out::put_filled` lays out the numbers of what the filler has done, case by case.
use mathlib.Core.Path.{sym, ap}
use borrow.Author.Rules.{rules}
use Rattle.std.specs.Prelude.{Result, ℕ}
use Rattle.refusal.specs.declared.Refusal.{Refusal}
use Rattle.filler.specs.Answer.{numbers}
use Rattle.out.specs.Out.{fill_list}
use Rattle.out.proofs.put_filled.Goals as goal

pub returns-in-Ok : goal.returns-in-Ok
returns-in-Ok c = ap (λ (f : Result ℕ Refusal). fill_list (numbers f)) (sym c.in-Ok.is)

pub returns-in-Err : goal.returns-in-Err
returns-in-Err c = rw (c.number.ensures, c.line.ensures) (ap (λ (f : Result ℕ Refusal). fill_list (numbers f)) (sym c.in-Err.is))
