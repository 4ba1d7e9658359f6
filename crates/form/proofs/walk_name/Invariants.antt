-- `form::walk_name` meets its contract. The invariant: what is left of the name, read from here, gives what all of it gives from the start.
use mathlib.Core.Path.{◌≡◌}
use lib.ListN.{drop}
use Rattle.form.specs.Read.{read_text}
use Rattle.form.proofs.walk_name.Given as goal

abbrev pub invariant-loop-c : goal.invariant-loop-c
invariant-loop-c l = read_text (drop l.c-index l.name) l.t l.at ≡ read_text l.name l.t l.p
