-- The definitions of `cell`.
pub mod Low
