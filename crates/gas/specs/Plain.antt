-- What the code's structs stand for among the definitions.
use Rattle.gas.specs.Gas.{Parts}
use Rattle.gas.specs.declared.Split.{Split}

-- the parts of a square
abbrev pub parts : Split → Parts
parts s = record { q2 = s.q2; e = s.e; low = s.low }
