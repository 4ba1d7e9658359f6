-- A choice by a test, and a test as a number.
use Rattle.std.specs.Prelude.{ℕ, Bool, true, false}

-- the first where the test passes, else the second
abbrev pub pick : {A : Type 0} → Bool → A → A → A
pick true a b = a
pick false a b = b

-- 1 for a test that passes, else 0
abbrev pub bit : Bool → ℕ
bit b = pick b 1 0
