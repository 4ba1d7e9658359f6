-- The constraints on a row, and the answer of the search for the first that fails.
use Rattle.std.specs.Prelude.{ℕ, zero, suc, Bool, List, Option, None, Some}
use Rattle.model.specs.Constraints.{constraints_by}
use Rattle.row.specs.Plain.{plain}
use Rattle.rules.specs.declared.window.Window.{Window}

-- whether the row meets each of the 26, in their order, where the answers to 9 and to 25 are known
abbrev pub constraints_of : Window → (nine twenty_five : Bool) → List Bool
constraints_of w nine twenty_five = constraints_by (plain w.two_before) (plain w.before) (plain w.row) w.first w.last nine twenty_five

-- the number as an answer: none where it is 0, which is no constraint's number
abbrev pub named : ℕ → Option ℕ
named zero = None
named (suc k) = Some (suc k)
