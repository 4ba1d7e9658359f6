-- The definitions of `ground`.
pub mod Agree
