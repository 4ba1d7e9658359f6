-- By what the search found; a found row is one of the trace (`found_inside`).
use mathlib.Core.Path.{sym, ap}
use Rattle.state.specs.declared.look.Search.{Search}
use Rattle.state.proofs.SearchLaws.{found_inside, look_by_found}
use Rattle.state.proofs.look.state_before.Goals as goal

pub state_found-requires : goal.state_found-requires
state_found-requires c =
    let e = ap (λ (s : Search). s.found) c.search_back-s.ensures in
    found_inside _ _ _ _ _ _ (sym e) c.requires

pub returns : goal.returns
returns c = look_by_found _ _ _ _ c.search_back-s.ensures c.state_found.ensures
