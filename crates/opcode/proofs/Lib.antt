-- The laws and theorems of `opcode` that belong to no one function.
pub mod TableLaws
