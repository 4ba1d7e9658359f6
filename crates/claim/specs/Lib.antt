-- The definitions of `claim`.
pub mod Instruction
pub mod Claims
pub mod Paper
pub mod Told
