-- The definitions of `gas`.
pub mod Gas
pub mod Paper
pub mod Examples
pub mod Plain
