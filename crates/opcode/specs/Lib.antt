-- The definitions of `opcode`.
pub mod Opcodes
