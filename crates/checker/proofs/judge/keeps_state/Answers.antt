-- `checker::judge::keeps_state` answers what constraint 9 asks: of the state looked up where a cycle starts, and nothing elsewhere.
use mathlib.Core.Path.{sym, ◌∙◌, ap}
use Rattle.model.specs.Cycles.{Looked}
use Rattle.model.specs.State.{context_of}
use Rattle.checker.proofs.StartLaws.{asked-start, asked_else}
use Rattle.checker.proofs.judge.keeps_state.Goals as goal

pub returns-then-starts_cycle : goal.returns-then-starts_cycle
returns-then-starts_cycle c =
    c.rule9.ensures
    ∙ asked-start _ _ _ _ (c.read-x.ensures ∙ c.row-bytes.ensures) _ _ (sym c.starts_cycle.ensures ∙ c.if-starts_cycle.true) (c.of_row-own.ensures ∙ ap context_of c.row-bytes.ensures)
    (ap (λ (a : Looked). a.state) c.state_before-looked.ensures)

pub returns-else-starts_cycle : goal.returns-else-starts_cycle
returns-else-starts_cycle c =
    asked_else _ _ _ _ (c.read-x.ensures ∙ c.row-bytes.ensures) (sym c.starts_cycle.ensures ∙ c.if-starts_cycle.false)
