-- The definitions of `trace`.
pub mod Asked
pub mod Told
