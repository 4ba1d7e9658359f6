-- `lines::put_claim` meets its contract: the state that is recalled is the one that the cycle is written at.
use mathlib.Core.Path.{◌∙◌, ap}
use native.Mathlib.Numerals.{add-one}
use native.Mathlib.Omega.{arith}
use Rattle.state.specs.Plain.{context}
use Rattle.recent.specs.Notes.{noted}
use Rattle.lines.proofs.put_claim.Goals as goal

pub invariant_of-cycle : goal.invariant_of-cycle
invariant_of-cycle c = record { sound = rw c.recall-before.ensures c.requires.sound }

pub returns-clause-buf_after : goal.returns-clause-buf_after
returns-clause-buf_after c = rw (← c.recall-before.ensures, ← add-one c.args.cycles) c.put.ensures

pub returns-clause-recent_after : goal.returns-clause-recent_after
returns-clause-recent_after c =
    c.note.ensures ∙ ap (noted c.args.recent.now (context c.args.claim.context)) (omega (arith, c.rows.ensures))
