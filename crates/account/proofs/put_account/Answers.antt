-- `account::put_account` meets its contract: the lines, and then the last line with their counts.
use mathlib.Core.Path.{sym}
use native.Mathlib.Omega.{arith}
use Rattle.model.proofs.TableOf.{length-table}
use Rattle.account.proofs.ReportLaws.{account_put}
use Rattle.account.proofs.put_account.Goals as goal

pub put_total-requires : goal.put_total-requires
put_total-requires c = omega (arith, rw length-table at c.put_lines-counts.ensures.room, c.requires.rows_le_room_rows)

pub returns : goal.returns
returns c = account_put _ _ (sym (length-table _ _)) c.put_lines-counts.ensures c.put_total.ensures
