-- What the checker's answer says: the model's verdict, and document 01's numbers for each case.
use Rattle.std.specs.Prelude.{ℕ}
use Rattle.model.specs.Verdict as model
use Rattle.refusal.specs.Refusals.{number, line, lineless}
use Rattle.count.specs.Counts.{told_counts}
use Rattle.checker.specs.declared.Verdict.{Verdict}
use Rattle.checker.specs.declared.Verdict.TheVariants.{Accepted, Broken, Refused}

-- the answer that tells a verdict of the model
abbrev pub told : model.Verdict → Verdict
told (model.accepted c) = Accepted (told_counts c)
told (model.broken i k) = Broken i k
told (model.refused m) = Refused (lineless m)

-- the numbers that document 01 speaks of
pub record Numbers : Type 0 where
  pub refused : ℕ
  pub line : ℕ
  pub accepted : ℕ
  pub instructions : ℕ
  pub oob : ℕ
  pub empty : ℕ
  pub row : ℕ
  pub constraint : ℕ

-- The checker answers accepted with counts of instructions, out-of-bounds ones and empty rows, or row (from 0) and constraint; the fields of the
-- other case are 0. On a refusal all other result fields are 0.
abbrev pub numbers : Verdict → Numbers
numbers (Accepted c) = record {
  refused = 0;
  line = 0;
  accepted = 1;
  instructions = c.instructions;
  oob = c.oob;
  empty = c.empty;
  row = 0;
  constraint = 0;
}
numbers (Broken i k) = record { refused = 0; line = 0; accepted = 0; instructions = 0; oob = 0; empty = 0; row = i; constraint = k }
numbers (Refused r) = record {
  refused = number r;
  line = line r;
  accepted = 0;
  instructions = 0;
  oob = 0;
  empty = 0;
  row = 0;
  constraint = 0;
}
