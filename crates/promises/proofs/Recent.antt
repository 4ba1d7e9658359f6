-- No second answer, and no second notes, meet the contracts of `recent`.
use mathlib.Core.Path.{refl, ap}
use Rattle.promises.proofs.State.{code_state}
use Rattle.promises.proofs.NoSecond.{NoSecond, no_second, equation, given, ref, shared, answer, first}
use Rattle.recent.proofs.Recent.new.Reads as new
use Rattle.recent.proofs.Recent.note.Reads as note
use Rattle.recent.proofs.Recent.recall.Reads as recall

-- nothing noted, and one row noted more
pub one_new : NoSecond new.Post given answer
one_new = equation (λ a b. refl)

pub one_note : NoSecond note.Post (ref given) first
one_note = equation (λ a b. refl)

-- the state that the notes and the trace show
pub one_recall : NoSecond recall.Post (shared (shared given)) answer
one_recall = no_second _ (λ κ a v e p. ap code_state p) (λ a b. refl)
