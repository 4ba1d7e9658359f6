-- No second answer, and no second buffer, meets the contracts of `beyond`.
use mathlib.Core.Path.{refl}
use denote.Param.Laws.{Laws, IsCopy}
use denote.RattleType.{RattleType}
use mir.Syntax.{Dict}
use Rattle.std.specs.declared.clone.Clone as Clone
use Rattle.beyond.specs.declared.rows.Rows as Rows
use Rattle.promises.proofs.NoSecond.{NoSecond, equation, value, ref, shared, given, answer, first, second}
use Rattle.beyond.proofs.Beyond.put.Reads as put-beyond
use Rattle.beyond.proofs.Beyond.stands.Reads as beyond-stands
use Rattle.beyond.proofs.rows.put_rows.Reads as put-rows
use Rattle.beyond.proofs.rows.rows_are.Reads as rows_are_lem

-- an out-of-bounds cycle, written and compared
pub one_put : NoSecond put-beyond.Post (value (ref given)) second
one_put = equation (λ a b. refl)

pub one_stands : NoSecond beyond-stands.Post (value (shared given)) answer
one_stands = equation (λ a b. refl)

-- the rows of whatever makes them
pub one_put_rows : (R : RattleType) (l : Laws R) (c : IsCopy R) (g : Rows.Ghosts R.Denot) (d : Dict) (h : Clone.Ghosts R.Denot) (e : Dict)
    → NoSecond (put-rows.Post R l c g d h e) (ref given) first
one_put_rows R l c g d h e = equation (λ a b. refl)

pub one_rows_are : (R : RattleType) (l : Laws R) (c : IsCopy R) (g : Rows.Ghosts R.Denot) (d : Dict) (h : Clone.Ghosts R.Denot) (e : Dict)
    → NoSecond (rows_are_lem.Post R l c g d h e) (shared given) answer
one_rows_are R l c g d h e = equation (λ a b. refl)
