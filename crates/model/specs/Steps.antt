-- How STAMP and CT move from one row to the next, whatever the last CT of a cycle is.
use Rattle.std.specs.Prelude.{ℕ, ◌+◌, Bool, ◌||◌, not, eqb, leb}
use Rattle.model.specs.Tests.{pick}

-- after STAMP 0 comes 0 or 1. Otherwise STAMP equals the one before if that row's CT was not its E, else it is one more.
unfoldable pub stamp_moves : (stamp_before ct_before last_before stamp : ℕ) → Bool
stamp_moves stamp_before ct_before last_before stamp =
    pick (eqb stamp_before 0) (leb stamp 1) (eqb stamp (pick (eqb ct_before last_before) (stamp_before + 1) stamp_before))

-- CT is 0 where STAMP is 0 or new; else one more than before.
unfoldable pub ct_moves : (stamp_before ct_before stamp ct : ℕ) → Bool
ct_moves stamp_before ct_before stamp ct = eqb ct (pick (eqb stamp 0 || not (eqb stamp stamp_before)) 0 (ct_before + 1))
