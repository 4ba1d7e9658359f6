-- The limit on the search is the lower of the limit and the number of cycles; by LastLaws what it stops short of is refused.
use mathlib.Core.Path.{sym, ◌∙◌, ap}
use native.Mathlib.Omega.{arith}
use Rattle.std.specs.Prelude.{Ok}
use Rattle.model.specs.State.{State}
use Rattle.state.specs.Plain.{told_looked}
use Rattle.state.specs.declared.look.Search.{Search}
use Rattle.state.proofs.SearchLaws.{found_inside}
use Rattle.last.specs.Last.{told_last}
use Rattle.last.proofs.LastLaws.{refused_short, given-whole, last_of_zero, last_of_some}
use Rattle.last.proofs.last_within.Goals as goal

pub returns-then-x-eq0 : goal.returns-then-x-eq0
returns-then-x-eq0 c = ap told_last (sym (last_of_zero _ c.requires.accepted _ _ c.if-x-eq0.true))

pub returns-then-stopped_short : goal.returns-then-stopped_short
returns-then-stopped_short c =
    ap told_last (sym (last_of_some _ c.requires.accepted _ _ c.if-x-eq0.false
    ∙ refused_short _ c.requires.accepted _ _ c.requires.cycles_value _ _ c.min-most.ensures _ c.search_back-s.ensures
    (sym c.stopped_short.ensures ∙ c.if-stopped_short.true)))

pub state_found-requires : goal.state_found-requires
state_found-requires c =
    let e = ap (λ (s : Search). s.found) c.search_back-s.ensures in
    found_inside _ _ _ _ _ _ (sym e) (omega arith)

pub returns : goal.returns
returns c =
    ap (λ (w : State). Ok (told_looked (record { state = w; cycles = c.search_back-s.result.count }))) c.state_found.ensures
    ∙ ap told_last (sym (last_of_some _ c.requires.accepted _ _ c.if-x-eq0.false
    ∙ given-whole _ c.requires.accepted _ _ c.requires.cycles_value _ _ c.min-most.ensures _ c.search_back-s.ensures
    (sym c.stopped_short.ensures ∙ c.if-stopped_short.false)))
