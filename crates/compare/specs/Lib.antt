-- The definitions of `compare`.
pub mod Narrow
pub mod Same
