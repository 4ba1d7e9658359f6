-- The cells that stay as they are in a cycle, as the thirteen whole numbers that constraint 8 speaks of.
use Rattle.std.specs.Prelude.{ℕ, List, [], ◌∷◌}
use Rattle.number.specs.Whole.{val}
use Rattle.rules.specs.declared.cells.Kept.{Kept}

-- the cells, in the order of the columns
abbrev pub numbers : Kept → List ℕ
numbers k =
    k.cn ∷ val k.end1 ∷ val k.end2 ∷ k.mem ∷ k.memn ∷ k.cost ∷ k.costn ∷ k.gas ∷ k.comp ∷ k.endmax ∷ k.flag ∷ k.q1 ∷ k.q2 ∷ []
