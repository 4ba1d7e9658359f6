-- No second answer meets the contracts of `state`.
use mathlib.Core.Path.{refl, ap}
use Rattle.model.specs.State as model
use Rattle.state.specs.declared.Context.{Context}
use Rattle.state.specs.declared.State.{State}
use Rattle.state.specs.Plain.{told_looked}
use Rattle.promises.proofs.NoSecond.{NoSecond, no_second, equation, given, value, shared, answer}
use Rattle.state.proofs.Context.of_row.Reads as context-of-row
use Rattle.state.proofs.Context.is_of.Reads as is-of
use Rattle.state.proofs.State.of_row.Reads as state-of-row
use Rattle.state.proofs.look.cycle_rows.Reads as cycle_rows_lem
use Rattle.state.proofs.look.search_back.Reads as search-back
use Rattle.state.proofs.look.state_found.Reads as state-found
use Rattle.state.proofs.look.state_before.Reads as state-before

-- the code's context and state from those of the model
abbrev pub code_context : model.Context → Context
code_context x = record { cn = x.cn }

abbrev pub code_state : model.State → State
code_state s = record { mem = record { 0 = s.mem }; cost = record { 0 = s.cost } }

-- what the bytes of a row say
pub one_context_of_row : NoSecond context-of-row.Post (shared given) answer
one_context_of_row = no_second _ (λ κ a v e p. ap code_context p) (λ a b. refl)

pub one_is_of : NoSecond is-of.Post (value (shared given)) answer
one_is_of = equation (λ a b. refl)

pub one_state_of_row : NoSecond state-of-row.Post (shared given) answer
one_state_of_row = no_second _ (λ κ a v e p. ap code_state p) (λ a b. refl)

pub one_cycle_rows : NoSecond cycle_rows_lem.Post (shared given) answer
one_cycle_rows = equation (λ a b. refl)

-- what is found in the rows of a trace
pub one_search_back : NoSecond search-back.Post (shared given) answer
one_search_back = equation (λ a b. refl)

pub one_state_found : NoSecond state-found.Post (shared given) answer
one_state_found = no_second _ (λ κ a v e p. ap code_state p) (λ a b. refl)

pub one_state_before : NoSecond state-before.Post (shared given) answer
one_state_before = no_second _ (λ κ a v e p. ap told_looked p) (λ a b. refl)
