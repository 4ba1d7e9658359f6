-- The invariant is Going: after so many cycles, back to a row, what is left of the search decides its answer. The row's number falls, since a cycle
-- has a row. Each break and each further turn is one law of SearchLaws.
use Rattle.model.specs.Columns.{row_at}
use Rattle.state.specs.Plain.{context}
use Rattle.state.proofs.SearchLaws.{Going}
use Rattle.state.proofs.look.search_back.Given as goal

abbrev pub invariant-loop-count : goal.invariant-loop-count
invariant-loop-count l = Going (row_at l.t) (context l.x) l.row l.limit l.to l.count

abbrev pub decreases-loop-count : goal.decreases-loop-count
decreases-loop-count l = l.to
